use Rattle.run_extents.specs.Mirror.{last_backed}
use Rattle.run_records.proofs.put_last.Goals as goal

pub returns : goal.returns
unfolding last_backed
returns c = cc
