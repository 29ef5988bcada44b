use lib.Ieee as Ieee
use mathlib.Core.Path.{refl}
use Rattle.gauge_words.proofs.blank.Goals as goal

pub returns : goal.returns
unfolding Ieee.of_bits
returns c = refl
