use lib.Ieee as Ieee
use mathlib.Core.Path.{refl}
use Rattle.gauge.specs.Gauge.{halves}
use Rattle.gauge.proofs.halves.Goals as goal

pub returns : goal.returns
unfolding halves Ieee.of_bits
returns c = refl
