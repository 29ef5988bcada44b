use Rattle.validate_runs.specs.Mirror.{last_plain}
use Rattle.base.proofs.Tests.{picks}
use Rattle.validate_runs.proofs.last_plain.Goals as goal

pub returns-then-k-gt1 : goal.returns-then-k-gt1
unfolding last_plain
returns-then-k-gt1 c = search picks

pub returns : goal.returns
unfolding last_plain
returns c = search picks
