use native.Mathlib.Omega.{arith}
use Rattle.map_search.proofs.Leading.{zeros_most, one_word}
use Rattle.map_search.proofs.lowest_in.Goals as goal

pub overflow_cast-result : goal.overflow_cast-result
overflow_cast-result c = omega (arith, zeros_most c.get_word_in.result)

pub returns : goal.returns
returns c = let a = c.args in
    one_word a.pool.now (λ i. (c.shared_slice_known-1.given i).fits) a.k _ c.requires c.get_word_in.ensures
