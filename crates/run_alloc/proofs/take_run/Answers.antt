use Rattle.run_extents.specs.Mirror.{run_taken}
use Rattle.run_alloc.proofs.take_run.Goals as goal

pub returns : goal.returns
unfolding run_taken
returns c = rw (c.plain_links-2.ensures, c.fill.ensures, c.plain_links.ensures, c.take_front.ensures) at c.put_links.ensures
