use Rattle.run_neighbours.specs.Mirror.{run_to}
use Rattle.run_neighbours.proofs.run_to.Goals as goal

pub returns : goal.returns
unfolding run_to
returns c = cc
