use mathlib.Core.Path.{refl}
use Rattle.base.proofs.Tests.{pick_on, pick-off}
use Rattle.mend_order.proofs.Lists.{last_head}
use Rattle.mend_order.proofs.run_start.Goals as goal

pub returns-then-ends_run : goal.returns-then-ends_run
returns-then-ends_run c = pick_on _ _ _ _ c.ends_run.ensures c.if-ends_run.true (last_head _ _ _ _ c.last_below.ensures)

pub returns : goal.returns
returns c = pick-off _ _ _ _ c.ends_run.ensures c.if-ends_run.false refl
