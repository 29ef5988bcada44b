use Rattle.validate_runs.specs.Mirror.{taken_rest}
use Rattle.base.proofs.Tests.{picks}
use Rattle.validate_runs.proofs.taken_rest.Goals as goal

pub returns-then-ends_taken : goal.returns-then-ends_taken
unfolding taken_rest
returns-then-ends_taken c = search picks

pub returns-else-ends_taken : goal.returns-else-ends_taken
unfolding taken_rest
returns-else-ends_taken c = search picks
