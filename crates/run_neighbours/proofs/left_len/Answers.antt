use Rattle.base.proofs.Tests.{picks}
use Rattle.run_neighbours.specs.Mirror.{left_len}
use Rattle.run_neighbours.proofs.left_len.Goals as goal

pub returns-then-p-gt0 : goal.returns-then-p-gt0
unfolding left_len
returns-then-p-gt0 c = search picks

pub returns-else-p-gt0 : goal.returns-else-p-gt0
unfolding left_len
returns-else-p-gt0 c = search picks
