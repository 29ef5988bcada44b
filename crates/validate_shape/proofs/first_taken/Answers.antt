use Rattle.rules.specs.Rules.{first_taken, taken_run}
use Rattle.validate_shape.proofs.first_taken.Goals as goal

pub returns : goal.returns
unfolding first_taken taken_run
returns c = cc
