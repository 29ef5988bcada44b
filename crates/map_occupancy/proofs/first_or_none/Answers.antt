use Rattle.base.proofs.Tests.{picks}
use Rattle.map_occupancy.proofs.first_or_none.Goals as goal

pub returns-then-at-eq0 : goal.returns-then-at-eq0
returns-then-at-eq0 c = search picks

pub returns-else-at-eq0 : goal.returns-else-at-eq0
returns-else-at-eq0 c = search picks
