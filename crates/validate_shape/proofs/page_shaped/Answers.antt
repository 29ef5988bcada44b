use Rattle.rules.specs.Rules.{shape_at}
use Rattle.validate_shape.proofs.page_shaped.Goals as goal

pub returns : goal.returns
unfolding shape_at
returns c = cc
