use Rattle.base.proofs.Tests.{pick_on, pick-off}
use Rattle.mend_order.proofs.Lists.{last_head}
use Rattle.mending.specs.Mirror.{prev_anew}
use Rattle.mend_order.proofs.prev_anew.Goals as goal

pub returns-then-is_head : goal.returns-then-is_head
unfolding prev_anew
returns-then-is_head c = pick_on _ _ _ _ c.is_head.ensures c.if-is_head.true (last_head _ _ _ _ c.last_below.ensures)

pub returns : goal.returns
unfolding prev_anew
returns c = pick-off _ _ _ _ c.is_head.ensures c.if-is_head.false (rw c.requires.3 at c.class_prev.ensures)
