use Rattle.validate_runs.specs.Mirror.{free_inside}
use Rattle.base.proofs.Tests.{pick_on, picks}
use Rattle.validate_runs.proofs.free_inside.Goals as goal

pub returns-then-last_plain : goal.returns-then-last_plain
unfolding free_inside
returns-then-last_plain c = pick_on _ _ _ _ c.last_plain.ensures c.if-last_plain.true (rw c.saturating_sub.ensures at c.plain_from.ensures)

pub returns-else-last_plain : goal.returns-else-last_plain
unfolding free_inside
returns-else-last_plain c = search picks
