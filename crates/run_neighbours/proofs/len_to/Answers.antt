use Rattle.base.proofs.Tests.{picks}
use Rattle.run_neighbours.specs.Mirror.{len_to}
use Rattle.run_neighbours.proofs.len_to.Goals as goal

pub returns-then-l-eq-FIRST_FREE : goal.returns-then-l-eq-FIRST_FREE
unfolding len_to
returns-then-l-eq-FIRST_FREE c = search picks

pub returns-then-l-eq-INSIDE_FREE : goal.returns-then-l-eq-INSIDE_FREE
unfolding len_to
returns-then-l-eq-INSIDE_FREE c = search picks

pub returns : goal.returns
unfolding len_to
returns c = search picks
