use Rattle.base.proofs.Tests.{picks}
use Rattle.class_peaks.specs.Mirror.{peak_raised}
use Rattle.class_peaks.proofs.raise_peak.Goals as goal

pub returns-then-w-gt2 : goal.returns-then-w-gt2
unfolding peak_raised
returns-then-w-gt2 c = search picks

pub returns-else-w-gt2 : goal.returns-else-w-gt2
unfolding peak_raised
returns-else-w-gt2 c = search picks
