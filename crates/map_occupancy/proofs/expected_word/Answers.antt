use Rattle.map_occupancy.specs.Mirror.{expected}
use Rattle.base.proofs.Tests.{picks}
use Rattle.map_occupancy.proofs.expected_word.Goals as goal

pub returns-then-j-at : goal.returns-then-j-at
unfolding expected
returns-then-j-at c = search picks

pub returns-then-j-eq0 : goal.returns-then-j-eq0
unfolding expected
returns-then-j-eq0 c = search picks

pub returns-else-j-eq0 : goal.returns-else-j-eq0
unfolding expected
returns-else-j-eq0 c = search picks
