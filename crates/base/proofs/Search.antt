-- Laws of `specs/Search.antt`.
use mathlib.Core.Path.{◌≡◌, refl, sym, ◌∙◌}
use mathlib.Core.Logic.{◌⊎◌, inl, inr, ◌≢◌}
use mathlib.Core.Bool.{Bool, true, false, cond}
use Prim.Native.Nat.{ℕ, zero, suc, ◌≤◌, ◌<◌}
use native.Mathlib.Omega.{arith}
use lib.Dec.{ltb}
use borrow.Author.Tests.{ltb-true, ltb-false}
use Rattle.base.specs.Search.{least, any}
use Rattle.base.proofs.Cases.{clash, eq?, lt?}

pub record Least (q : ℕ → Bool) (n r : ℕ) : Type 0 where
  pub at_most : r ≤ n
  pub before : (j : ℕ) → j < r → q j ≡ false
  pub passes : r < n → q r ≡ true

pub least_spec : (q : ℕ → Bool) (n : ℕ) → Least q n (least q n)
unfolding least
least_spec q zero = record { at_most = omega arith; before = λ j h. absurd (omega arith); passes = λ h. absurd (omega arith) }
least_spec q (suc n) = go (least_spec q n) (ltb (least q n) n) refl (q n) refl
  where
    go : Least q n (least q n) → (t : Bool) → ltb (least q n) n ≡ t → (u : Bool) → q n ≡ u → Least q (suc n) (cond t (least q n) (cond u n (suc n)))
    go h true e u d = record { at_most = omega (arith, h.at_most); before = h.before; passes = λ _. h.passes (ltb-true _ _ e) }
    go h false e true d = record {
      at_most = omega arith;
      before = λ j l. h.before j (omega (arith, ltb-false));
      passes = λ _. d;
    }
    go h false e false d = record {
      at_most = omega arith;
      before = λ j l. last j l (eq? j n);
      passes = λ l. absurd (omega arith);
    }
      where
        last : (j : ℕ) → j < suc n → (j ≡ n) ⊎ (j ≢ n) → q j ≡ false
        last j l (inl p) = rw p d
        last j l (inr p) = h.before j (omega (arith, ltb-false))

-- only one number is the least
pub least-is : (q : ℕ → Bool) (n r : ℕ) → Least q n r → least q n ≡ r
least-is q n r h = go (lt? (least q n) r) (lt? r (least q n)) (least_spec q n)
  where
    go : (least q n < r) ⊎ (r ≤ least q n) → (r < least q n) ⊎ (least q n ≤ r) → Least q n (least q n) → least q n ≡ r
    go (inl a) b L = absurd (clash (L.passes (omega (arith, h.at_most))) (h.before (least q n) a))
    go (inr a) (inl b) L = absurd (clash (h.passes (omega (arith, L.at_most))) (L.before r b))
    go (inr a) (inr b) L = omega arith

pub any-true : (q : ℕ → Bool) (n : ℕ) → any q n ≡ true → (least q n < n) × (q (least q n) ≡ true)
unfolding any
any-true q n e = (ltb-true _ _ e, (least_spec q n).passes (ltb-true _ _ e))

pub any_some : (q : ℕ → Bool) (n : ℕ) → any q n ≡ true → (i : ℕ) × (i < n) × (q i ≡ true)
any_some q n e = let (l, t) = any-true q n e in (least q n, l, t)

pub any_false : (q : ℕ → Bool) (n : ℕ) → any q n ≡ false → (i : ℕ) → i < n → q i ≡ false
unfolding any
any_false q n e i h = (least_spec q n).before i (omega (arith, ltb-false, (least_spec q n).at_most))

pub any_at : (q : ℕ → Bool) (n i : ℕ) → i < n → q i ≡ true → any q n ≡ true
any_at q n i h e = go (any q n) refl
  where
    go : (t : Bool) → any q n ≡ t → any q n ≡ true
    go true d = d
    go false d = absurd (clash e (any_false q n d i h))

-- tests that agree
pub least_ext : (p q : ℕ → Bool) (n : ℕ) → ((i : ℕ) → i < n → p i ≡ q i) → least p n ≡ least q n
least_ext p q n e =
    let t = least_spec p n in
    sym
    (least-is q n (least p n)
    (record {
      at_most = t.at_most;
      before = λ i l. sym (e i (omega (arith, t.at_most))) ∙ t.before i l;
      passes = λ l. sym (e (least p n) l) ∙ t.passes l;
    }))
