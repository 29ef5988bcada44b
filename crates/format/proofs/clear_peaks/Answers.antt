use Rattle.base.proofs.Tests.{picks}
use Rattle.format.specs.Mirror.{peaks_cleared}
use Rattle.format.proofs.clear_peaks.Goals as goal

pub returns-then-w-gt2 : goal.returns-then-w-gt2
unfolding peaks_cleared
returns-then-w-gt2 c = search picks

pub returns-else-w-gt2 : goal.returns-else-w-gt2
unfolding peaks_cleared
returns-else-w-gt2 c = search picks
