use Rattle.run_neighbours.specs.Mirror.{run_unlinked}
use Rattle.run_free.proofs.unlink_run.Goals as goal

pub returns : goal.returns
unfolding run_unlinked
returns c = rw c.get_links-l.ensures at c.unlink.ensures
