use native.Mathlib.Omega.{arith}
use Rattle.mend_order.proofs.next_on.Goals as goal

pub overflow_add-q : goal.overflow_add-q
overflow_add-q c = omega arith

pub overflow_sub-n : goal.overflow_sub-n
overflow_sub-n c = omega arith

pub returns : goal.returns
returns c = c.first_from.ensures
