use Rattle.free_all_try.specs.Mirror.{run_tried}
use Rattle.base.proofs.Tests.{picks}
use Rattle.free_all_try.proofs.try_run.Goals as goal

pub returns-then-is_flagged : goal.returns-then-is_flagged
unfolding run_tried
returns-then-is_flagged c = search picks

pub returns-else-is_flagged : goal.returns-else-is_flagged
unfolding run_tried
returns-else-is_flagged c = search picks
