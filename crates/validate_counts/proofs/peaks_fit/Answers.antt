use Rattle.rules.specs.Bytes.{peaks_fit}
use Rattle.base.proofs.Tests.{picks}
use Rattle.validate_counts.proofs.peaks_fit.Goals as goal

pub returns-then-w-gt2 : goal.returns-then-w-gt2
unfolding peaks_fit
returns-then-w-gt2 c = search picks

pub returns-else-w-gt2 : goal.returns-else-w-gt2
unfolding peaks_fit
returns-else-w-gt2 c = search picks
