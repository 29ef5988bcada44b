use Prim.Native.Nat.{◌+◌, ◌≤◌, ◌<◌}
use native.Mathlib.Omega.{arith}
use lib.ListN.{length}
use mathlib.Core.Path.{refl}
use Rattle.base.proofs.Tests.{pick_le, pick_gt}
use Rattle.maps.specs.Mirror.{with_new_map}
use Rattle.maps.proofs.NewMap.{new_lent}
use Rattle.map_new.proofs.write_map_at.Goals as goal

pub returns-then-to-pool : goal.returns-then-to-pool
unfolding with_new_map
returns-then-to-pool c = let a = c.args in
    let h : a.base + a.bytes ≤ length a.pool.now = omega arith in
    pick_le _ _ _ _ h (new_lent a.pool.now _ a.base a.bytes a.k h c.write_new_map.ensures)

pub returns-else-to-pool : goal.returns-else-to-pool
unfolding with_new_map
returns-else-to-pool c = let a = c.args in
    let h : length a.pool.now < a.base + a.bytes = omega arith in
    pick_gt _ _ _ _ h refl
