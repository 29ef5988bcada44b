use Rattle.run_neighbours.specs.Mirror.{run_pushed}
use Rattle.run_free.proofs.push_run.Goals as goal

pub returns : goal.returns
unfolding run_pushed
returns c = rw (c.plain_links.ensures, c.put_back.ensures) at c.push_front.ensures
