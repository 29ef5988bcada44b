use mathlib.Core.Path.{refl}
use Rattle.validate.proofs.is_none.Goals as goal

pub returns : goal.returns
returns c = refl
