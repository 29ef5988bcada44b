use Prim.Native.Nat.{◌%◌}
use native.Mathlib.Omega.{arith}
use Rattle.maps.proofs.Masks.{test_word}
use borrow.Author.Rules.{rules}
use Rattle.map_marks.proofs.is_in.Goals as goal

pub returns : goal.returns
returns c = let a = c.args in rw c.mark_word.ensures (test_word a.v (a.i % 64) (search rules) (omega arith))
