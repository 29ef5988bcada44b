use Rattle.validate_runs.specs.Mirror.{free_rest}
use Rattle.base.proofs.Tests.{picks}
use Rattle.validate_runs.proofs.free_rest.Goals as goal

pub returns-then-ends_free : goal.returns-then-ends_free
unfolding free_rest
returns-then-ends_free c = search picks

pub returns-else-ends_free : goal.returns-else-ends_free
unfolding free_rest
returns-else-ends_free c = search picks
