use mathlib.Core.Path.{◌≡◌, refl, ap, ◌∙◌}
use native.Mathlib.Omega.{arith}
use lib.ListN.{length, take}
use lib.Seq.{take_all}
use Rattle.serve.specs.Mirror.{served_words, served_all}
use Rattle.serve.proofs.Serving.{in_order}
use Rattle.serve.proofs.Order.{turn}
use Rattle.serve.proofs.serve_all.Goals as goal

pub loop-i-init : goal.loop-i-init
unfolding served_all served_words
loop-i-init c = (refl, refl)

pub loop-i-preserved : goal.loop-i-preserved
loop-i-preserved c = let b = c.serve in
    let l = c.loop-i in
    let a = c.args in
    turn (in_order a.w a.pages) a.pool.now a.requests.now l.i (omega arith) a.answers.now l.pool l.answers b.new.pool b.result (omega arith) l.invariant.0 l.invariant.1 b.ensures.answer b.ensures.slice

pub returns-clause-pool : goal.returns-clause-pool
returns-clause-pool c = let l = c.loop-i in
    let a = c.args in
    let e : l.i ≡ length a.requests.now = omega arith in
    let all : take l.i a.requests.now ≡ a.requests.now = take_all l.i a.requests.now (omega arith) in
    l.invariant.0 ∙ ap (served_all a.w a.pages a.pool.now) all

pub returns-clause-answers : goal.returns-clause-answers
returns-clause-answers c = let l = c.loop-i in
    let a = c.args in
    let e : l.i ≡ length a.requests.now = omega arith in
    let all : take l.i a.requests.now ≡ a.requests.now = take_all l.i a.requests.now (omega arith) in
    l.invariant.1 ∙ rw (all, e)
