use Rattle.validate_runs.specs.Mirror.{begins}
use Rattle.validate_runs.proofs.begins_run.Goals as goal

pub returns : goal.returns
unfolding begins
returns c = rw (c.map_of-map.ensures, c.unpack_links-l.ensures) at c.all.ensures
