use Rattle.run_neighbours.specs.Mirror.{run_from}
use Rattle.run_neighbours.proofs.run_from.Goals as goal

pub returns : goal.returns
unfolding run_from
returns c = cc
