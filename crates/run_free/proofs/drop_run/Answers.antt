use Rattle.base.proofs.Tests.{picks}
use Rattle.run_neighbours.specs.Mirror.{run_dropped}
use Rattle.run_free.proofs.drop_run.Goals as goal

pub returns-then-n-ne0 : goal.returns-then-n-ne0
unfolding run_dropped
returns-then-n-ne0 c = search picks

pub returns-else-n-ne0 : goal.returns-else-n-ne0
unfolding run_dropped
returns-else-n-ne0 c = search picks
