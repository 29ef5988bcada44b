use native.Mathlib.Omega.{arith}
use Rattle.maps.proofs.Masks.{or_mask, and_mask}
use borrow.Author.Rules.{rules}
use Rattle.map_marks.proofs.bit_put.Goals as goal

pub returns-then-set : goal.returns-then-set
returns-then-set c = rw c.if-set.true (or_mask _ _ (search rules) (omega arith))

pub returns-else-set : goal.returns-else-set
returns-else-set c = rw c.if-set.false (and_mask _ _ (search rules) (omega arith))
