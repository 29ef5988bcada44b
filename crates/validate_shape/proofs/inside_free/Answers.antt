use Rattle.rules.specs.Rules.{inside_free}
use Rattle.validate_shape.proofs.inside_free.Goals as goal

pub returns : goal.returns
unfolding inside_free
returns c = cc
