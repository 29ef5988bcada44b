use Rattle.base.proofs.Tests.{picks}
use Rattle.run_neighbours.specs.Mirror.{right_len}
use Rattle.run_neighbours.proofs.right_len.Goals as goal

pub returns-then-q-pages : goal.returns-then-q-pages
unfolding right_len
returns-then-q-pages c = search picks

pub returns-else-q-pages : goal.returns-else-q-pages
unfolding right_len
returns-else-q-pages c = search picks
