use Rattle.locate.specs.Mirror.{run_found}
use Rattle.base.proofs.Tests.{picks}
use Rattle.locate.proofs.in_run.Goals as goal

pub returns-then-within-eq0 : goal.returns-then-within-eq0
unfolding run_found
returns-then-within-eq0 c = search picks

pub returns-else-within-eq0 : goal.returns-else-within-eq0
unfolding run_found
returns-else-within-eq0 c = search picks
