use Rattle.validate_pages.specs.Mirror.{class_weight}
use Rattle.validate_pages.proofs.class_weight.Goals as goal

pub returns : goal.returns
unfolding class_weight
returns c = cc
