use mathlib.Core.Path.{◌∙◌}
use native.Mathlib.Omega.{arith}
use Rattle.maps.proofs.Words.{bit-mark}
use Rattle.map_marks.proofs.get_mark_in.Goals as goal

pub returns : goal.returns
returns c = let a = c.args in
    rw c.get_word_in.ensures at c.is_in.ensures
    ∙ bit-mark a.pool.now (λ j. (c.shared_slice_known-1.given j).fits) a.k c.requires _ (omega arith)
