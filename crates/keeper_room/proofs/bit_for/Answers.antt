use Rattle.base.proofs.Tests.{picks}
use Rattle.map_occupancy.specs.Mirror.{bit_for}
use Rattle.keeper_room.proofs.bit_for.Goals as goal

pub returns-then-c-lt3 : goal.returns-then-c-lt3
unfolding bit_for
returns-then-c-lt3 c = search picks

pub returns-else-c-lt3 : goal.returns-else-c-lt3
unfolding bit_for
returns-else-c-lt3 c = search picks
