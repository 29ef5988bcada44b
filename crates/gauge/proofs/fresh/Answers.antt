use lib.Ieee as Ieee
use mathlib.Core.Path.{refl}
use Rattle.gauge.specs.Gauge.{fresh}
use Rattle.gauge.proofs.fresh.Goals as goal

pub returns : goal.returns
unfolding fresh Ieee.of_bits
returns c = refl
