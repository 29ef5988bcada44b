use Rattle.base.proofs.Tests.{picks}
use Rattle.run_neighbours.specs.Mirror.{len_from}
use Rattle.run_neighbours.proofs.len_from.Goals as goal

pub returns-then-l-eq-FIRST_FREE : goal.returns-then-l-eq-FIRST_FREE
unfolding len_from
returns-then-l-eq-FIRST_FREE c = search picks

pub returns-else-l-eq-FIRST_FREE : goal.returns-else-l-eq-FIRST_FREE
unfolding len_from
returns-else-l-eq-FIRST_FREE c = search picks
