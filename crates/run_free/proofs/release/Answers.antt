use Rattle.run_neighbours.specs.Mirror.{pages_released}
use Rattle.run_free.proofs.release.Goals as goal

pub returns : goal.returns
unfolding pages_released
returns c = rw (c.give_free.ensures, c.right_len-b.ensures, c.after.ensures, c.left_len-a.ensures) at c.join.ensures
