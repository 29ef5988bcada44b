use native.Mathlib.Omega.{arith}
use Rattle.maps.proofs.Search.{search_start}
use Rattle.map_search.proofs.Leading.{word_set, word_clear, words-set}
use Rattle.map_search.proofs.by_words.Goals as goal

pub loop-j-init : goal.loop-j-init
loop-j-init c = search_start _ _

pub returns-then-z-lt64 : goal.returns-then-z-lt64
returns-then-z-lt64 c = let a = c.args in
    word_clear a.pool.now (λ i. (c.shared_slice_known-1.given i).fits) a.k c.loop-j.j _ (omega arith) c.get_word_in.ensures a.m
    c.loop-j-test.true c.loop-j.invariant c.if-z-lt64.true

pub loop-j-preserved : goal.loop-j-preserved
loop-j-preserved c = let a = c.args in
    word_set a.pool.now (λ i. (c.shared_slice_known-1.given i).fits) a.k c.loop-j.j _ (omega arith) c.get_word_in.ensures
    c.loop-j.invariant c.if-z-lt64.false

pub returns : goal.returns
returns c = words-set _ _ _ c.loop-j.j c.loop-j.invariant (omega arith)
