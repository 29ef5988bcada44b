use mathlib.Core.Path.{◌∙◌}
use native.Mathlib.Omega.{arith}
use Rattle.maps.proofs.Words.{bit-stored}
use Rattle.map_marks.proofs.put_mark_in.Goals as goal

pub returns : goal.returns
returns c = let a = c.args in
    (rw (c.put_in.ensures, c.get_word_in-v.ensures) at c.put_word_in.ensures)
    ∙ bit-stored a.pool.now (λ j. (c.slice_known-1.given j).fits) a.k c.requires _ _ (omega arith)
