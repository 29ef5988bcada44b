use Rattle.free_all_mark.specs.Mirror.{run_put}
use Rattle.free_all_mark.proofs.put_run.Goals as goal

pub returns : goal.returns
unfolding run_put
returns c = rw c.map_base-base.ensures at c.put_mark.ensures
