use mathlib.Core.Path.{◌≡◌}
use mathlib.Core.List.{◌++◌}
use Prim.Native.Nat.{◌≤◌}
use lib.ListN.{drop}
use Rattle.maps.specs.Mirror.{new_map}
use Rattle.map_new.proofs.write_new_map.Given as goal

-- the invariant: the first j bytes are the new map's, and the rest as they were
abbrev pub invariant-loop-j : goal.invariant-loop-j
invariant-loop-j l = (8 ≤ l.j) × (l.map ≡ new_map l.j l.k ++ drop l.j l.initial.map)
