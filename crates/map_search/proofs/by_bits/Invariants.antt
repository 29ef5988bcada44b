use Prim.Native.Nat.{◌+◌, ◌*◌, ◌≤◌}
use Rattle.maps.proofs.Search.{Passed}
use Rattle.map_search.proofs.by_bits.Given as goal

-- the invariants: the marks before this byte, or this bit, are set
abbrev pub invariant-loop-j : goal.invariant-loop-j
invariant-loop-j l = Passed l.pool l.base (8 * l.j)

abbrev pub invariant-loop-i : goal.invariant-loop-i
invariant-loop-i l = (l.i ≤ 8) × Passed l.pool l.base (8 * l.j + l.i)
