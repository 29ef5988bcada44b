use Rattle.run_extents.specs.Mirror.{fewer_free}
use Rattle.run_alloc.proofs.take_free.Goals as goal

pub returns : goal.returns
unfolding fewer_free
returns c = rw (c.free_to.ensures, c.saturating_sub.ensures, c.get_header-h.ensures) at c.put_header.ensures
