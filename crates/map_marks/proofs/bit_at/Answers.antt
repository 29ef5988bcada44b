use mathlib.Core.Path.{refl}
use Rattle.map_marks.proofs.bit_at.Goals as goal

pub returns : goal.returns
returns c = refl
