use Rattle.validate_walk.proofs.Open.{class_on, run_on}
use Rattle.mend_order.proofs.on_list.Goals as goal

pub returns-then-list-eq0 : goal.returns-then-list-eq0
returns-then-list-eq0 c = run_on _ _ _ _ _ c.if-list-eq0.true c.is_head.ensures

pub returns : goal.returns
returns c = class_on _ _ _ _ _ c.if-list-eq0.false c.is_open.ensures
