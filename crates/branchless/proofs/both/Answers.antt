use Rattle.base.proofs.Tests.{picks}
use Rattle.branchless.proofs.both.Goals as goal

pub returns-then-a : goal.returns-then-a
returns-then-a c = search picks

pub returns-else-a : goal.returns-else-a
returns-else-a c = search picks
