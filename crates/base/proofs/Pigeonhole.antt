-- A list without repeats of numbers below n that pass a test is no longer than they are many; where it is as long, it holds them all.
--
use mathlib.Core.Path.{◌≡◌, refl, sym, ap, ◌∙◌}
use mathlib.Core.Logic.{◌⊎◌, inl, inr, ◌≢◌}
use mathlib.Core.Bool.{Bool, true, false}
use mathlib.Core.List.{List, [], ◌∷◌}
use Prim.Native.Nat.{ℕ, zero, suc, ◌+◌, ◌≤◌, ◌<◌}
use native.Mathlib.Omega.{arith}
use lib.Dec.{eqb}
use lib.ListN.{length}
use borrow.Author.Tests.{eqb-true, eqb-false, eq-eqb, ne_eqb, not-true}
use Rattle.base.specs.Count.{sum, bit, count}
use Rattle.base.specs.Lists.{Mem, NoDup, keep, has}
use Rattle.base.specs.Links.{others}
use Rattle.base.proofs.Cases.{clash, bool?, eq?}
use Rattle.base.proofs.Lists.{mem_cast, keep-mem, mem-keep, keep-once, has-mem, mem-has}

pub mem? : (q : ℕ) (L : List ℕ) → Mem q L ⊎ ¬ Mem q L
mem? q L = go (bool? (has (eqb q) L))
  where
    go : (has (eqb q) L ≡ true) ⊎ (has (eqb q) L ≡ false) → Mem q L ⊎ ¬ Mem q L
    go (inl e) = let (x, m, d) = has-mem (eqb q) L e in inl (mem_cast L (eqb-true q x d) m)
    go (inr e) = inr (λ m. clash (mem-has (eqb q) L q m (eq-eqb q q refl)) e)

-- the list without n
keep-length : (n : ℕ) (L : List ℕ) → NoDup L → Mem n L → suc (length (keep (others n) L)) ≡ length L
unfolding others
keep-length n (p ∷ L) once m = go (eq? p n) m (keep-length n L once.1)
  where
    all : (l : List ℕ) → ¬ Mem n l → keep (others n) l ≡ l
    all [] out = refl
    all (q ∷ l) out = rw (ne_eqb q n (λ e. out (inl (sym e))), all l (λ k. out (inr k)))

    go : (p ≡ n) ⊎ (p ≢ n) → Mem n (p ∷ L) → (Mem n L → suc (length (keep (others n) L)) ≡ length L) → suc (length (keep (others n) (p ∷ L))) ≡ suc (length L)
    go (inl e) m ih = rw (eq-eqb p n e, all L (λ k. once.0 (mem_cast L e k)))
    go (inr d) (inl e) ih = absurd (d (sym e))
    go (inr d) (inr k) ih = rw (ne_eqb p n d) (ap suc (ih k))
keep-length n [] once m = elim m [ ]

module _ (t : ℕ → Bool) where
  -- each number of the list is below n and passes the test
  abbrev pub Passing : ℕ → List ℕ → Type 0
  Passing n L = (q : ℕ) → Mem q L → (q < n) × (t q ≡ true)

  without : (n : ℕ) (L : List ℕ) → Passing (suc n) L → Passing n (keep (others n) L)
  unfolding others
  without n L P q m =
      let (k, o) = keep-mem (others n) q L m in
      let d : q ≢ n = eqb-false q n (not-true (eqb q n) o) in
      (omega (arith, (P q k).0), (P q k).1)

  below : (n : ℕ) (L : List ℕ) → Passing (suc n) L → ¬ Mem n L → Passing n L
  below n L P out q m = let d : q ≢ n = λ e. out (mem_cast L (sym e) m) in (omega (arith, (P q m).0), (P q m).1)

  pub length-count : (n : ℕ) (L : List ℕ) → NoDup L → Passing n L → length L ≤ count t n
  unfolding count sum
  length-count zero [] once P = omega arith
  length-count zero (p ∷ L) once P = absurd (omega (arith, (P p (inl refl)).0))
  length-count (suc n) L once P = go (mem? n L) (length-count n (keep (others n) L) (keep-once (others n) L once)) (length-count n L once)
    where
      go : Mem n L ⊎ ¬ Mem n L → (Passing n (keep (others n) L) → length (keep (others n) L) ≤ count t n) → (Passing n L → length L ≤ count t n)
          → length L ≤ count t n + bit (t n)
      go (inl m) ih _ = rw (P n m).1 (omega (arith, keep-length n L once m, ih (without n L P)))
      go (inr out) _ ih = omega (arith, ih (below n L P out))

  pub all_listed : (n : ℕ) (L : List ℕ) → NoDup L → Passing n L → length L ≡ count t n → (p : ℕ) → p < n → t p ≡ true → Mem p L
  all_listed n L once P e p h k = go (mem? p L)
    where
      more : Passing n (p ∷ L)
      more q (inl x) = (omega arith, ap t x ∙ k)
      more q (inr m) = P q m

      go : Mem p L ⊎ ¬ Mem p L → Mem p L
      go (inl m) = m
      go (inr out) = absurd (omega (arith, length-count n (p ∷ L) (out, once) more))

  -- a list that holds each of them once
  pub count-listed : (n : ℕ) (L : List ℕ) → NoDup L → Passing n L → ((p : ℕ) → p < n → t p ≡ true → Mem p L) → count t n ≡ length L
  unfolding count sum
  count-listed zero [] once P A = refl
  count-listed zero (p ∷ L) once P A = absurd (omega (arith, (P p (inl refl)).0))
  count-listed (suc n) L once P A = go (t n) refl (count-listed n (keep (others n) L) (keep-once (others n) L once)) (count-listed n L once)
    where
      other : (p : ℕ) → p < n → t p ≡ true → Mem p (keep (others n) L)
      other p h k = mem-keep (others n) p L (A p (omega arith) k) (unfold others in (rw (ne_eqb p n (omega arith)) refl))

      go : (b : Bool) → t n ≡ b → (Passing n (keep (others n) L) → ((p : ℕ) → p < n → t p ≡ true → Mem p (keep (others n) L)) → count t n ≡ length (keep (others n) L))
          → (Passing n L → ((p : ℕ) → p < n → t p ≡ true → Mem p L) → count t n ≡ length L) → count t n + bit b ≡ length L
      go true e ih _ = omega (arith, keep-length n L once (A n (omega arith) e), ih (without n L P) other)
      go false e _ ih = omega (arith, ih (below n L P (λ m. clash (P n m).1 e)) (λ p h k. A p (omega arith) k))
