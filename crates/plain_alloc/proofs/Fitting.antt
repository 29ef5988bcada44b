-- Bounds of the lowest free chunk.
use Rattle.plain_counts.proofs.Counting.{count_most}
use mathlib.Core.Path.{◌≡◌}
use mathlib.Core.Bool.{Bool, not}
use Prim.Native.Nat.{ℕ, ◌≤◌}
use native.Mathlib.Omega.{arith}
use Rattle.base.proofs.Search.{least_spec}
use Rattle.model.specs.Classes.{chunks, lowest}
use Rattle.plain.proofs.Bytes.{chunks-most}

pub lowest_few : (c : ℕ) (m : ℕ → Bool) (r : ℕ) → r ≡ lowest c m → r ≤ 512
unfolding lowest
lowest_few c m r e = omega (arith, chunks-most c, (least_spec (λ i. not (m i)) (chunks c)).at_most)

pub ruleset bounds = (count_most, lowest_few)
