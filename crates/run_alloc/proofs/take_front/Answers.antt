use Rattle.run_extents.specs.Mirror.{front_off}
use Rattle.run_alloc.proofs.take_front.Goals as goal

pub returns : goal.returns
unfolding front_off
returns c = rw (c.take_free.ensures, c.get_links-l.ensures) at c.cut_front.ensures
