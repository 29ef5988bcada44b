use Rattle.base.proofs.Tests.{picks}
use Rattle.class_peaks.specs.Mirror.{lifted_to}
use Rattle.class_peaks.proofs.lift_to.Goals as goal

pub returns-then-peak-used : goal.returns-then-peak-used
unfolding lifted_to
returns-then-peak-used c = search picks

pub returns-else-peak-used : goal.returns-else-peak-used
unfolding lifted_to
returns-else-peak-used c = search picks
