use Rattle.base.proofs.Tests.{picks}
use Rattle.map_search.proofs.passed.Goals as goal

pub returns-then-b-eq255 : goal.returns-then-b-eq255
returns-then-b-eq255 c = search picks

pub returns-else-b-eq255 : goal.returns-else-b-eq255
returns-else-b-eq255 c = search picks
