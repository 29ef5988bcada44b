use Rattle.base.proofs.Tests.{picks}
use Rattle.run_neighbours.specs.Mirror.{one_of}
use Rattle.run_free.proofs.one_of.Goals as goal

pub returns-then-n-eq0 : goal.returns-then-n-eq0
unfolding one_of
returns-then-n-eq0 c = search picks

pub returns-else-n-eq0 : goal.returns-else-n-eq0
unfolding one_of
returns-else-n-eq0 c = search picks
