use mathlib.Core.Path.{◌≡◌}
use Prim.Native.Nat.{◌*◌, ◌≤◌}
use Rattle.base.specs.Count.{count}
use Rattle.maps.specs.Bitmap.{mark}
use Rattle.map_count.proofs.ones.Given as goal

abbrev pub invariant-loop-j : goal.invariant-loop-j
invariant-loop-j g l = (l.n ≡ count (mark l.pool (8 * l.k)) (64 * l.j)) × (l.n ≤ 64 * l.j)
