-- Neighbours in a list in rising order, found by search.
use mathlib.Core.Path.{◌≡◌, refl, sym, ap, ◌∙◌}
use mathlib.Core.Logic.{◌⊎◌, inl, inr, ◌≢◌}
use mathlib.Core.Bool.{Bool, true, false, cond}
use mathlib.Core.List.{◌∷◌}
use Prim.Native.Nat.{ℕ, zero, suc, ◌+◌, ◌-◌, ◌≤◌, ◌<◌}
use native.Mathlib.Omega.{arith}
use borrow.Author.Tests.{eq-eqb, ne_eqb}
use Rattle.base.specs.Tests.{pick}
use Rattle.base.specs.Lists.{keep}
use Rattle.base.specs.Links.{head_or, next_in, prev_from}
use Rattle.base.proofs.Cases.{eq?}
use Rattle.records.specs.Layout.{no_page}
use Rattle.mending.specs.Remade.{up_from}
use Rattle.mending.specs.Mirror.{first_from, last_below}

module _ (q : ℕ → Bool) where
  next-number : (a k : ℕ) → first_from q (a + 1) k ≡ first_from q (suc a) k
  next-number a k = let z : a + 1 ≡ suc a = omega arith in ap (λ (b : ℕ). first_from q b k) z

  pub first_of : (a k : ℕ) → head_or no_page (keep q (up_from a k)) ≡ first_from q a k
  unfolding first_from pick
  first_of a zero = refl
  first_of a (suc k) = go (q a) (first_of (suc a) k ∙ sym (next-number a k))
    where
      go : (t : Bool) → head_or no_page (keep q (up_from (suc a) k)) ≡ first_from q (a + 1) k →
          head_or no_page (cond t (a ∷ keep q (up_from (suc a) k)) (keep q (up_from (suc a) k))) ≡ pick t a (first_from q (a + 1) k)
      go true ih = refl
      go false ih = ih

  pub next_of : (a k p : ℕ) → a ≤ p → p < a + k → q p ≡ true → next_in no_page p (keep q (up_from a k)) ≡ first_from q (suc p) (a + k - suc p)
  next_of a zero p l u t = absurd (omega arith)
  next_of a (suc k) p l u t = go (eq? a p) (next_of (suc a) k p)
    where
      go : (a ≡ p) ⊎ (a ≢ p) → (suc a ≤ p → p < suc a + k → q p ≡ true → next_in no_page p (keep q (up_from (suc a) k)) ≡ first_from q (suc p) (suc a + k - suc p)) →
          next_in no_page p (keep q (up_from a (suc k))) ≡ first_from q (suc p) (a + suc k - suc p)
      go (inl e) ih =
          let z : k ≡ a + suc k - suc p = omega arith in
          let y : suc a ≡ suc p = ap suc e in
          rw (ap q e ∙ t, eq-eqb a p e) (first_of (suc a) k ∙ (λ i. first_from q (y i) (z i)))
      go (inr e) ih =
          let z : suc a + k - suc p ≡ a + suc k - suc p = omega arith in
          skip (q a) (ih (omega arith) (omega arith) t ∙ ap (first_from q (suc p)) z)
        where
          skip : (b : Bool) → next_in no_page p (keep q (up_from (suc a) k)) ≡ first_from q (suc p) (a + suc k - suc p) →
              next_in no_page p (cond b (a ∷ keep q (up_from (suc a) k)) (keep q (up_from (suc a) k))) ≡ first_from q (suc p) (a + suc k - suc p)
          skip true h = rw (ne_eqb a p e) h
          skip false h = h

  pub prev_of : (a k p : ℕ) → a ≤ p → p < a + k → q p ≡ true → prev_from no_page (last_below q a) p (keep q (up_from a k)) ≡ last_below q p
  unfolding last_below pick
  prev_of a zero p l u t = absurd (omega arith)
  prev_of a (suc k) p l u t = go (eq? a p) (prev_of (suc a) k p)
    where
      go : (a ≡ p) ⊎ (a ≢ p) → (suc a ≤ p → p < suc a + k → q p ≡ true → prev_from no_page (pick (q a) a (last_below q a)) p (keep q (up_from (suc a) k)) ≡ last_below q p) →
          prev_from no_page (last_below q a) p (keep q (up_from a (suc k))) ≡ last_below q p
      go (inl e) ih = rw (ap q e ∙ t, eq-eqb a p e) (ap (last_below q) e)
      go (inr e) ih = skip (q a) (ih (omega arith) (omega arith) t)
        where
          skip : (b : Bool) → prev_from no_page (pick b a (last_below q a)) p (keep q (up_from (suc a) k)) ≡ last_below q p →
              prev_from no_page (last_below q a) p (cond b (a ∷ keep q (up_from (suc a) k)) (keep q (up_from (suc a) k))) ≡ last_below q p
          skip true h = rw (ne_eqb a p e) h
          skip false h = h

  -- the last number that passes, by its place
  pub last_is : (p r : ℕ) → r < p → q r ≡ true → ((j : ℕ) → r < j → j < p → q j ≡ false) → last_below q p ≡ r
  unfolding last_below pick
  last_is zero r l t none = absurd (omega arith)
  last_is (suc p) r l t none = go (eq? r p) (last_is p r)
    where
      go : (r ≡ p) ⊎ (r ≢ p) → (r < p → q r ≡ true → ((j : ℕ) → r < j → j < p → q j ≡ false) → last_below q p ≡ r) → pick (q p) p (last_below q p) ≡ r
      go (inl e) ih = rw (ap q (sym e) ∙ t) (sym e)
      go (inr e) ih = rw (none p (omega arith) (omega arith)) (ih (omega arith) t (λ j a b. none j a (omega arith)))
