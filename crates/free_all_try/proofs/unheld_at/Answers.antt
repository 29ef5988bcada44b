use Rattle.free_all_try.specs.Mirror.{unheld_at}
use Rattle.free_all_try.proofs.unheld_at.Goals as goal

pub returns : goal.returns
unfolding unheld_at
returns c = cc
