-- Laws of `specs/Count.antt`.
use mathlib.Core.Path.{◌≡◌, refl}
use mathlib.Core.Logic.{◌⊎◌, inl, inr, ◌≢◌}
use mathlib.Core.Bool.{Bool, true, false}
use Prim.Native.Nat.{ℕ, zero, suc, ◌+◌, ◌*◌, ◌≤◌, ◌<◌}
use native.Mathlib.Omega.{arith}
use Rattle.base.specs.Count.{sum, bit, count}
use Rattle.base.proofs.Cases.{eq?}

pub sum_ext : (h k : ℕ → ℕ) (n : ℕ) → ((j : ℕ) → j < n → h j ≡ k j) → sum h n ≡ sum k n
unfolding sum
sum_ext h k zero e = refl
sum_ext h k (suc n) e = let z : sum h n ≡ sum k n = sum_ext h k n (λ j l. e j (omega arith)) in omega (arith, e n (omega arith))

pub sum-zero : (h : ℕ → ℕ) (n : ℕ) → ((j : ℕ) → j < n → h j ≡ 0) → sum h n ≡ 0
unfolding sum
sum-zero h zero e = refl
sum-zero h (suc n) e = let z : sum h n ≡ 0 = sum-zero h n (λ j l. e j (omega arith)) in omega (arith, e n (omega arith))

-- one term is one more
pub sum_bump : (h k : ℕ → ℕ) (n i : ℕ) → i < n → ((j : ℕ) → j < n → j ≢ i → k j ≡ h j) → k i ≡ h i + 1 → sum k n ≡ sum h n + 1
unfolding sum
sum_bump h k (suc n) i l e b = go (eq? i n) (λ u. sum_bump h k n i u (λ j v d. e j (omega arith) d) b)
  where
    go : (i ≡ n) ⊎ (i ≢ n) → (i < n → sum k n ≡ sum h n + 1) → sum k n + k n ≡ sum h n + h n + 1
    go (inl q) ih =
        let z : sum k n ≡ sum h n = sum_ext k h n (λ j u. e j (omega arith) (omega arith)) in
        let y : k n ≡ h n + 1 = rw q at b in
        omega arith
    go (inr q) ih =
        let z : sum k n ≡ sum h n + 1 = ih (omega arith) in
        omega (arith, e n (omega arith) (λ d. q (omega arith)))
sum_bump h k zero i l e b = elim l [ ]

-- no term is more than k
pub sum_bound : (h : ℕ → ℕ) (k : ℕ) → ((j : ℕ) → h j ≤ k) → (n : ℕ) → sum h n ≤ k * n
unfolding sum
sum_bound h k l zero = omega arith
sum_bound h k l (suc n) = omega (arith, l n, sum_bound h k l n)

pub count_bound : (q : ℕ → Bool) (n : ℕ) → count q n ≤ n
unfolding count
count_bound q n = omega (arith, sum_bound (λ j. bit (q j)) 1 (λ j. one (q j)) n)
  where
    one : (b : Bool) → bit b ≤ 1
    one true = omega arith
    one false = omega arith
