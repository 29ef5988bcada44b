-- Cases on a test or on two numbers, and contradictions.
use mathlib.Core.Path.{◌≡◌, refl, sym, ◌∙◌}
use mathlib.Core.Logic.{◌⊎◌, inl, inr, ◌≢◌}
use mathlib.Core.Bool.{Bool, true, false, cond, ◌&&◌, true≢false}
use Prim.Native.Nat.{ℕ, ◌+◌, ◌≤◌, ◌<◌}
use native.Mathlib.Omega.{arith}
use lib.Dec.{eqb, ltb}
use borrow.Author.Tests.{ltb-true, ltb-false, eqb-true, eqb-false}

pub clash : {b : Bool} → b ≡ true → b ≡ false → ⊥
clash p q = true≢false (sym p ∙ q)

-- for a goal ⊥ from equations between different constructors: `never (cc)`
pub never : ◌≡◌ {A = ℕ} 0 1 → ⊥
never e = omega arith

pub bool? : (b : Bool) → (b ≡ true) ⊎ (b ≡ false)
bool? true = inl refl
bool? false = inr refl

pub eq? : (a b : ℕ) → (a ≡ b) ⊎ (a ≢ b)
eq? a b = go (eqb a b) refl
  where
    go : (t : Bool) → eqb a b ≡ t → (a ≡ b) ⊎ (a ≢ b)
    go true e = inl (eqb-true a b e)
    go false e = inr (eqb-false a b e)

pub lt? : (a b : ℕ) → (a < b) ⊎ (b ≤ a)
lt? a b = go (ltb a b) refl
  where
    go : (t : Bool) → ltb a b ≡ t → (a < b) ⊎ (b ≤ a)
    go true e = inl (ltb-true a b e)
    go false e = inr (ltb-false a b e)

-- outside the k places from a on
abbrev pub Out : ℕ → ℕ → ℕ → Type 0
Out a k j = (j < a) ⊎ (a + k ≤ j)

pub in? : (a k j : ℕ) → ((a ≤ j) × (j < a + k)) ⊎ Out a k j
in? a k j = go (lt? j a) (lt? j (a + k))
  where
    go : (j < a) ⊎ (a ≤ j) → (j < a + k) ⊎ (a + k ≤ j) → ((a ≤ j) × (j < a + k)) ⊎ Out a k j
    go (inl l) h = inr (inl l)
    go (inr l) (inl h) = inl (l, h)
    go (inr l) (inr h) = inr (inr h)

-- a test that cannot hold is false
pub decided : (t : Bool) → (t ≡ true → ⊥) → t ≡ false
decided true h = absurd (h refl)
decided false h = refl

-- two tests that follow from each other are equal
pub same_test : (t u : Bool) → (t ≡ true → u ≡ true) → (u ≡ true → t ≡ true) → t ≡ u
same_test true u h k = sym (h refl)
same_test false u h k = sym (decided u (λ e. clash (k e) refl))

pub and_true : (a b : Bool) → a && b ≡ true → (a ≡ true) × (b ≡ true)
and_true true b e = (refl, e)
and_true false b e = absurd (clash e refl)

-- a choice, by cases on its test
pub cond_case : {A : Type 0} (P : A → Type 0) (t : Bool) {a b : A} → (t ≡ true → P a) → (t ≡ false → P b) → P (cond t a b)
cond_case P true h k = h refl
cond_case P false h k = k refl
