use Rattle.free_all_try.specs.Mirror.{released}
use Rattle.free_all_try.proofs.is_released.Goals as goal

pub returns : goal.returns
unfolding released
returns c = cc
