use Rattle.base.proofs.Tests.{pick_lt}
use Rattle.rules.specs.Read.{is_head}
use Rattle.base.proofs.Tests.{picks}
use Rattle.validate_walk.proofs.is_head.Goals as goal

pub returns-then-p-n : goal.returns-then-p-n
unfolding is_head
returns-then-p-n c = pick_lt _ _ _ _ c.if-p-n.true (cc)

pub returns : goal.returns
unfolding is_head
returns c = search picks
