use Rattle.rules.specs.Rules.{first_free, free_run}
use Rattle.validate_shape.proofs.first_free.Goals as goal

pub returns : goal.returns
unfolding first_free free_run
returns c = cc
