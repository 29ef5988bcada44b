use mathlib.Core.Path.{refl}
use Rattle.convert.proofs.second_header.Goals as goal

pub returns : goal.returns
returns c = refl
