use Rattle.model.specs.Classes.{pages_for}
use native.Mathlib.Omega.{arith}
use Rattle.sizes.proofs.pages_for.Goals as goal

pub returns : goal.returns
unfolding pages_for
returns c = omega arith
