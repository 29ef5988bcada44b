use Prim.Native.Nat.{◌*◌}
use Rattle.maps.proofs.Search.{Passed}
use Rattle.map_search.proofs.by_words.Given as goal

-- the invariant: the marks before word j are set
abbrev pub invariant-loop-j : goal.invariant-loop-j
invariant-loop-j l = Passed l.pool (8 * l.k) (64 * l.j)
