use Rattle.base.proofs.Tests.{pick_on, pick-off}
use Rattle.mend_order.proofs.Lists.{first_head}
use Rattle.mending.specs.Mirror.{next_anew}
use Rattle.mend_order.proofs.next_anew.Goals as goal

pub returns-then-is_head : goal.returns-then-is_head
unfolding next_anew
returns-then-is_head c = pick_on _ _ _ _ c.is_head.ensures c.if-is_head.true (first_head _ _ _ _ _ c.next_on.ensures)

pub returns : goal.returns
unfolding next_anew
returns c = pick-off _ _ _ _ c.is_head.ensures c.if-is_head.false (rw c.requires.4 at c.class_next.ensures)
