use Rattle.base.proofs.Tests.{picks}
use Rattle.class_counting.specs.Mirror.{asks_more}
use Rattle.class_counting.proofs.asked.Goals as goal

pub returns-then-asks : goal.returns-then-asks
unfolding asks_more
returns-then-asks c = search picks

pub returns-else-asks : goal.returns-else-asks
unfolding asks_more
returns-else-asks c = search picks
