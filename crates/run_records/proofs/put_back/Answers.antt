use Rattle.base.proofs.Tests.{picks}
use Rattle.run_extents.specs.Mirror.{backed}
use Rattle.run_records.proofs.put_back.Goals as goal

pub returns-then-n-gt1 : goal.returns-then-n-gt1
unfolding backed
returns-then-n-gt1 c = search picks

pub returns-else-n-gt1 : goal.returns-else-n-gt1
unfolding backed
returns-else-n-gt1 c = search picks
