use Rattle.run_neighbours.specs.Mirror.{more_free}
use Rattle.run_free.proofs.give_free.Goals as goal

pub returns : goal.returns
unfolding more_free
returns c = rw (c.free_to.ensures, c.get_header-h.ensures) at c.put_header.ensures
