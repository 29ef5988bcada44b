use Rattle.lists.specs.Mirror.{unlinked}
use Rattle.list_moves.proofs.unlink.Goals as goal

pub returns : goal.returns
unfolding unlinked
returns c = rw c.put_next.ensures at c.put_prev.ensures
