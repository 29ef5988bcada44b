use Rattle.base.proofs.Tests.{picks}
use Rattle.validate_counts.proofs.counts_and_peaks_fit.Goals as goal

pub returns-then-counts_fit : goal.returns-then-counts_fit
returns-then-counts_fit c = search picks depth 12

pub returns-else-counts_fit : goal.returns-else-counts_fit
returns-else-counts_fit c = search picks depth 12
