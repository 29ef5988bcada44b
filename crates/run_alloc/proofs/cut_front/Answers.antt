use Rattle.base.proofs.Tests.{picks}
use Rattle.run_extents.specs.Mirror.{front_cut}
use Rattle.run_alloc.proofs.cut_front.Goals as goal

pub returns-then-k-l : goal.returns-then-k-l
unfolding front_cut
returns-then-k-l c = search picks

pub returns-else-k-l : goal.returns-else-k-l
unfolding front_cut
returns-else-k-l c = search picks
