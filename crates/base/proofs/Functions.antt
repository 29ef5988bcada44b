-- Laws of `specs/Functions.antt`.
use mathlib.Core.Path.{◌≡◌, refl}
use mathlib.Core.Logic.{◌⊎◌, inl, inr, ◌≢◌}
use Prim.Native.Nat.{ℕ, ◌+◌, ◌≤◌, ◌<◌}
use native.Mathlib.Omega.{arith}
use borrow.Author.Tests.{lt-ltb, le-ltb, le-leb, lt-leb, eq-eqb, ne_eqb}
use Rattle.base.specs.Functions.{upd, fill}
use Rattle.base.proofs.Cases.{eq?, Out}

module _ {A : Type 0} (f : ℕ → A) where
  pub upd_same : (p : ℕ) (x : A) → upd f p x p ≡ x
  unfolding upd
  upd_same p x = rw (eq-eqb p p refl)

  pub upd_other : (p : ℕ) (x : A) (j : ℕ) → j ≢ p → upd f p x j ≡ f j
  unfolding upd
  upd_other p x j h = rw (ne_eqb j p h)

  pub upd_out : (p : ℕ) (x : A) (j : ℕ) → Out p 1 j → upd f p x j ≡ f j
  upd_out p x j (inl h) = upd_other p x j (omega arith)
  upd_out p x j (inr h) = upd_other p x j (omega arith)

  pub fill_in : (s k : ℕ) (x : A) (j : ℕ) → s ≤ j → j < s + k → fill f s k x j ≡ x
  unfolding fill
  fill_in s k x j a b = rw (le-leb s j a, lt-ltb j (s + k) b)

  pub fill_out : (s k : ℕ) (x : A) (j : ℕ) → Out s k j → fill f s k x j ≡ f j
  unfolding fill
  fill_out s k x j (inl h) = rw (lt-leb s j h)
  fill_out s k x j (inr h) = rw (le-leb s j (omega arith), le-ltb j (s + k) h)

-- two functions that agree at q still do once both have x at p
pub upd-at : {A : Type 0} (f g : ℕ → A) (p : ℕ) (x : A) (q : ℕ) → f q ≡ g q → upd f p x q ≡ upd g p x q
unfolding upd
upd-at f g p x q e = rw e

-- what holds of every value still holds where the new value has it
module _ {A : Type 0} (P : ℕ → A → Type 0) {f : ℕ → A} (old : (q : ℕ) → P q (f q)) where
  pub upd-keeps : (p : ℕ) (x : A) → P p x → (q : ℕ) → P q (upd f p x q)
  upd-keeps p x h q = go (eq? q p)
    where
      go : (q ≡ p) ⊎ (q ≢ p) → P q (upd f p x q)
      go (inl e) = rw (e, upd_same f p x) h
      go (inr d) = rw (upd_other f p x q d) (old q)
