use Rattle.rules.specs.Bytes.{peak_fits}
use Rattle.validate_counts.proofs.peak_fits.Goals as goal

pub returns : goal.returns
unfolding peak_fits
returns c = cc
