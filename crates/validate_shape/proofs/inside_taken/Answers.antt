use Rattle.rules.specs.Rules.{inside_taken}
use Rattle.validate_shape.proofs.inside_taken.Goals as goal

pub returns : goal.returns
unfolding inside_taken
returns c = cc
