use Rattle.validate_pages.specs.Mirror.{strays}
use Rattle.validate_pages.proofs.strays_of.Goals as goal

pub returns : goal.returns
unfolding strays
returns c = cc
