use mathlib.Core.Path.{refl}
use Rattle.validate_pages.specs.Mirror.{add_at}
use Rattle.validate_pages.proofs.add_at.Goals as goal

pub returns : goal.returns
unfolding add_at
returns c = refl
