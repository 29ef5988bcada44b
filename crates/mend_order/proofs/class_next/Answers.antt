use mathlib.Core.Path.{refl}
use Rattle.base.proofs.Tests.{pick_on, pick-off}
use Rattle.mend_order.proofs.Lists.{first_open}
use Rattle.mend_order.proofs.class_next.Goals as goal

pub returns-then-is_open : goal.returns-then-is_open
returns-then-is_open c = pick_on _ _ _ _ c.is_open.ensures c.if-is_open.true (first_open _ _ _ _ _ _ c.next_on.ensures)

pub returns : goal.returns
returns c = pick-off _ _ _ _ c.is_open.ensures c.if-is_open.false refl
