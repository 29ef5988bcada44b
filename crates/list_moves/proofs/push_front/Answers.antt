use Rattle.lists.specs.Mirror.{pushed}
use Rattle.list_moves.proofs.push_front.Goals as goal

pub returns : goal.returns
unfolding pushed
returns c = rw c.first-h.ensures at c.push_before.ensures
