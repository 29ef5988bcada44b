use mathlib.Core.Path.{◌≡◌}
use mathlib.Core.Bool.{true}
use Prim.Native.Nat.{◌+◌}
use lib.Dec.{eqb}
use Rattle.base.specs.Tests.{all_below}
use Rattle.words.specs.Word.{word}
use Rattle.map_occupancy.specs.Mirror.{expected}
use Rattle.map_occupancy.proofs.all_words.Given as goal

abbrev pub invariant-loop-j : goal.invariant-loop-j
invariant-loop-j l = all_below (λ i. eqb (word l.pool (l.k + i)) (expected l.first l.rest l.at l.odd i)) l.j ≡ true
