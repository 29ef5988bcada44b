use mathlib.Core.Path.{ap, ◌∙◌}
use Prim.Native.Nat.{◌/◌, ◌%◌}
use Rattle.free_all_try.specs.Mirror.{found_tried, offset_tried}
use Rattle.free_all_try.proofs.try_offset.Goals as goal

pub returns-in-Ok : goal.returns-in-Ok
unfolding offset_tried
returns-in-Ok c = let a = c.args in c.try_found.ensures ∙ ap (found_tried a.w a.pool.now a.pages (a.at.0 / 4096 % 65536)) c.in-Ok.ensures

pub returns-in-Err : goal.returns-in-Err
unfolding offset_tried
returns-in-Err c = let a = c.args in c.try_refused.ensures ∙ ap (found_tried a.w a.pool.now a.pages (a.at.0 / 4096 % 65536)) c.in-Err.ensures
