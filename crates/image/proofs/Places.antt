-- No two records share a word, whatever the width of a class record.
use mathlib.Core.Logic.{⊎_elim, ◌≢◌}
use Prim.Native.Nat.{ℕ, ◌+◌, ◌*◌, ◌≤◌, ◌<◌}
use native.Mathlib.Omega.{arith}
use native.Mathlib.Nat.{mul-le-mul_left}
use Rattle.base.proofs.Cases.{lt?}
use Rattle.records.specs.Layout.{counts_place, tally_place, peak_place}

module _ (w : ℕ) (wide : 2 ≤ w) where
  -- class record c ends before class record d begins
  before : (c d : ℕ) → c < d → w * c + w ≤ w * d
  before c d l = omega (arith, mul-le-mul_left w l)

  pub class-apart : (c d : ℕ) → c ≢ d → w * c ≢ w * d
  class-apart c d n =
      ⊎_elim (λ (l : c < d). omega (arith, before c d l)) (λ (l : d ≤ c). omega (arith, before d c (omega arith))) (lt? c d)

  pub counts-tally : (c d : ℕ) → counts_place w c ≢ tally_place w d
  counts-tally c d =
      ⊎_elim (λ (l : c < d). omega (arith, before c d l))
      (λ (l : d ≤ c).
      ⊎_elim (λ (k : d < c). omega (arith, before d c k))
      (λ (k : c ≤ d). omega (arith, mul-le-mul_left w l, mul-le-mul_left w k))
      (lt? d c))
      (lt? c d)

  -- the third word of a class record, where it has one
  pub counts_peak : 2 < w → (c d : ℕ) → counts_place w c ≢ peak_place w d
  counts_peak deep c d =
      ⊎_elim (λ (l : c < d). omega (arith, before c d l))
      (λ (l : d ≤ c).
      ⊎_elim (λ (k : d < c). omega (arith, before d c k))
      (λ (k : c ≤ d). omega (arith, mul-le-mul_left w l, mul-le-mul_left w k))
      (lt? d c))
      (lt? c d)

  pub tally_peak : 2 < w → (c d : ℕ) → tally_place w c ≢ peak_place w d
  tally_peak deep c d =
      ⊎_elim (λ (l : c < d). omega (arith, before c d l))
      (λ (l : d ≤ c).
      ⊎_elim (λ (k : d < c). omega (arith, before d c k))
      (λ (k : c ≤ d). omega (arith, mul-le-mul_left w l, mul-le-mul_left w k))
      (lt? d c))
      (lt? c d)

  -- the nine class records end where the page records begin
  pub class-below : (c : ℕ) → c < 9 → w * c + w ≤ 9 * w
  class-below c l = omega (arith, before c 9 l)
