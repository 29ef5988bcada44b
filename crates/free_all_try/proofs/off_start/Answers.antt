use Rattle.free_all_try.specs.Mirror.{off_start}
use Rattle.base.proofs.Tests.{picks}
use Rattle.free_all_try.proofs.off_start.Goals as goal

pub returns-then-is_released : goal.returns-then-is_released
unfolding off_start
returns-then-is_released c = search picks

pub returns-else-is_released : goal.returns-else-is_released
unfolding off_start
returns-else-is_released c = search picks
