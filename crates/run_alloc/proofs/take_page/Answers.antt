use Rattle.run_extents.specs.Mirror.{front_page}
use Rattle.run_alloc.proofs.take_page.Goals as goal

pub returns : goal.returns
unfolding front_page
returns c = c.take_front.ensures
