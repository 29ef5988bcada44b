-- The three changes of a linked list, each as the stores that make it: a page leaves, comes in front, takes another's place.
use mathlib.Core.Path.{subst, ◌≡◌, refl, sym, ◌∙◌}
use mathlib.Core.Logic.{◌⊎◌, inl, inr, ◌≢◌}
use mathlib.Core.Bool.{true, cond}
use mathlib.Core.List.{List, [], ◌∷◌}
use Prim.Native.Nat.{ℕ}
use lib.Dec.{eqb}
use borrow.Author.Tests.{eq-eqb, ne_eqb, eqb-false, not-true}
use Rattle.base.specs.Functions.{upd}
use Rattle.base.specs.Lists.{Mem, NoDup, keep}
use Rattle.base.specs.Links.{head_or, next_in, prev_from, others, replace, node, Linked}
use Rattle.base.proofs.Cases.{eq?}
use Rattle.base.proofs.Functions.{upd_same, upd_other, upd-at}
use Rattle.base.proofs.Lists.{keep-mem}
use Rattle.base.proofs.Neighbours.{next-left, prev-left, next-put, prev-put, next-new, prev-new, prev_on, prev-pushed, next_on}

-- what the links do not show at the list's own places does not matter
pub linked-frame : {z hd : ℕ} {nx pv nx' pv' : ℕ → ℕ} {xs : List ℕ} → ((q : ℕ) → Mem q (hd ∷ xs) → nx' q ≡ nx q) → ((q : ℕ) → Mem q xs → pv' q ≡ pv q)
    → Linked z hd nx pv xs → Linked z hd nx' pv' xs
linked-frame f g K = record { nexts = λ q m. f q m ∙ K.nexts q m; prevs = λ q m. g q m ∙ K.prevs q m }

-- where the page before r is stored
pub before-is : (z hd r : ℕ) (L : List ℕ) → ¬ Mem z L → Mem r L → node z hd (prev_from z z r L) ≡ prev_from z hd r L
before-is z hd r (x ∷ L) n m = go (eq? x r) m
  where
    inner : (b : ℕ) → b ≢ z → (l : List ℕ) → ¬ Mem z l → Mem r l → prev_from z b r l ≢ z
    inner b d (y ∷ l) k m = side (eq? y r) m (inner y (λ e. k (inl (sym e))) l (λ c. k (inr c)))
      where
        side : (y ≡ r) ⊎ (y ≢ r) → Mem r (y ∷ l) → (Mem r l → prev_from z y r l ≢ z) → cond (eqb y r) b (prev_from z y r l) ≢ z
        side (inl e) m ih = rw (eq-eqb y r e) d
        side (inr e) (inl c) ih = absurd (e (sym c))
        side (inr e) (inr c) ih = rw (ne_eqb y r e) (ih c)
    inner b d [] k m = elim m [ ]

    go : (x ≡ r) ⊎ (x ≢ r) → Mem r (x ∷ L) → node z hd (cond (eqb x r) z (prev_from z x r L)) ≡ cond (eqb x r) hd (prev_from z x r L)
    go (inl e) m = rw (eq-eqb x r e, eq-eqb z z refl)
    go (inr e) (inl c) = absurd (e (sym c))
    go (inr e) (inr c) = rw (ne_eqb x r e, ne_eqb (prev_from z x r L) z (inner x (λ w. n (inl (sym w))) L (λ w. n (inr w)) c))
before-is z hd r [] n m = elim m [ ]

module _ (z hd : ℕ) (nx pv : ℕ → ℕ) (L : List ℕ) (once : NoDup L) (no-z : ¬ Mem z L) (no-hd : ¬ Mem hd L) (K : Linked z hd nx pv L) where
  next-page : (r : ℕ) → Mem r L → nx r ≡ next_in z r L
  next-page r m = K.nexts r (inr m) ∙ rw (ne_eqb hd r (λ e. no-hd (rw e m)))

  -- r leaves: two stores
  pub linked-left : (r : ℕ) → Mem r L → Linked z hd (upd nx (node z hd (pv r)) (nx r)) (upd pv (nx r) (pv r)) (keep (others r) L)
  unfolding others
  linked-left r mr = record {
    nexts = λ q m.
        let (d, k) = kept q m in
        rw (next-page r mr, K.prevs r mr, before-is z hd r L no-z mr)
        (upd-at nx (λ j. next_in z j (hd ∷ L)) (prev_from z hd r L) (next_in z r L) q (K.nexts q k) ∙ sym (next-left z L once no-z r mr hd no-hd q d k));
    prevs = λ q m.
        let k : Mem q L × (others r q ≡ true) = keep-mem (others r) q L m in
        let d : q ≢ r = apart q m in
        rw (next-page r mr, K.prevs r mr)
        (upd-at pv (λ j. prev_from z z j L) (next_in z r L) (prev_from z z r L) q (K.prevs q k.0) ∙ sym (prev-left z L once no-z r mr q d k.0));
  }
    where
      apart : (q : ℕ) → Mem q (keep (others r) L) → q ≢ r
      apart q m e = eqb-false q r (not-true _ (keep-mem (others r) q L m).1) e

      kept : (q : ℕ) → Mem q (hd ∷ keep (others r) L) → (q ≢ r) × Mem q (hd ∷ L)
      kept q (inl e) = (λ w. no-hd (rw (sym e ∙ w) mr), inl e)
      kept q (inr m) = (apart q m, inr (keep-mem (others r) q L m).0)

  -- t comes in front, its own links written: two stores
  pub linked-pushed : (t : ℕ) → t ≢ hd → t ≢ z → ¬ Mem t L → nx t ≡ nx hd → pv t ≡ z → Linked z hd (upd nx hd t) (upd pv (nx hd) t) (t ∷ L)
  linked-pushed t d g new e f = record {
    nexts = λ q m. next q m;
    prevs = λ q m. prev q m;
  }
    where
      head_ne : (l : List ℕ) → ¬ Mem t l → t ≢ head_or z l
      head_ne [] n w = g w
      head_ne (x ∷ l) n w = n (inl w)

      first : nx hd ≡ head_or z L
      first = K.nexts hd (inl refl) ∙ rw (eq-eqb hd hd refl)

      next : (q : ℕ) → Mem q (hd ∷ t ∷ L) → upd nx hd t q ≡ next_in z q (hd ∷ t ∷ L)
      next q (inl w) = rw (w, upd_same nx hd t, eq-eqb hd hd refl)
      next q (inr (inl w)) = rw (w, upd_other nx hd t t d, ne_eqb hd t (λ x. d (sym x)), eq-eqb t t refl) (e ∙ first)
      next q (inr (inr m)) =
          let a : q ≢ hd = λ x. no-hd (rw (← x) m) in
          rw (upd_other nx hd t q a, next-page q m, ne_eqb hd q (λ x. a (sym x)), ne_eqb t q (λ x. new (rw x m)))

      prev : (q : ℕ) → Mem q (t ∷ L) → upd pv (nx hd) t q ≡ prev_from z z q (t ∷ L)
      prev q (inl w) = rw (w, eq-eqb t t refl) (upd_other pv (nx hd) t t (λ x. head_ne L new (x ∙ first)) ∙ f)
      prev q (inr m) = rw first (upd-at pv (λ j. prev_from z z j L) (head_or z L) t q (K.prevs q m) ∙ sym (prev-pushed z t L new q m))

  -- t, whose own links are those of r, takes the place of r: two stores
  pub linked-put : (r t : ℕ) → Mem r L → t ≢ hd → t ≢ z → ¬ Mem t L → nx t ≡ nx r → pv t ≡ pv r
      → Linked z hd (upd nx (node z hd (pv r)) t) (upd pv (nx r) t) (replace r t L)
  linked-put r t mr d g new e f = record { nexts = next; prevs = prev }
    where
      -- who stands on the new list
      on : (l : List ℕ) → NoDup l → (q : ℕ) → Mem q (replace r t l) → (q ≡ t) ⊎ (Mem q l × (q ≢ r))
      on (x ∷ l) o q m = go (eq? x r) m (on l o.1 q)
        where
          go : (x ≡ r) ⊎ (x ≢ r) → Mem q (cond (eqb x r) (t ∷ l) (x ∷ replace r t l)) → (Mem q (replace r t l) → (q ≡ t) ⊎ (Mem q l × (q ≢ r)))
              → (q ≡ t) ⊎ (Mem q (x ∷ l) × (q ≢ r))
          go (inl p) m ih = first (rw (eq-eqb x r p) at m)
            where
              first : Mem q (t ∷ l) → (q ≡ t) ⊎ (Mem q (x ∷ l) × (q ≢ r))
              first (inl w) = inl w
              first (inr k) = inr (inr k, λ w. o.0 (rw (p ∙ sym w) k))
          go (inr p) m ih = later (rw (ne_eqb x r p) at m)
            where
              deeper : (q ≡ t) ⊎ (Mem q l × (q ≢ r)) → (q ≡ t) ⊎ (Mem q (x ∷ l) × (q ≢ r))
              deeper (inl w) = inl w
              deeper (inr (k, n)) = inr (inr k, n)

              later : Mem q (x ∷ replace r t l) → (q ≡ t) ⊎ (Mem q (x ∷ l) × (q ≢ r))
              later (inl w) = inr (inl w, λ y. p (sym w ∙ y))
              later (inr k) = deeper (ih k)
      on [] o q m = elim m [ ]

      before : node z hd (pv r) ≡ prev_from z hd r L
      before = rw (K.prevs r mr) (before-is z hd r L no-z mr)

      not_t : (q : ℕ) → Mem q (hd ∷ L) → t ≢ q
      not_t q (inl w) x = d (x ∙ w)
      not_t q (inr m) x = new (rw x m)

      after_ne : t ≢ next_in z r L
      after_ne x = side (next_on z r L)
        where
          side : (next_in z r L ≡ z) ⊎ Mem (next_in z r L) L → ⊥
          side (inl w) = g (x ∙ w)
          side (inr m) = new (rw x m)

      next : (q : ℕ) → Mem q (hd ∷ replace r t L) → upd nx (node z hd (pv r)) t q ≡ next_in z q (hd ∷ replace r t L)
      next q m = go m
        where
          kept : Mem q (hd ∷ L) → q ≢ r → upd nx (node z hd (pv r)) t q ≡ next_in z q (hd ∷ replace r t L)
          kept k n =
              rw before
              (upd-at nx (λ j. next_in z j (hd ∷ L)) (prev_from z hd r L) t q (K.nexts q k)
              ∙ sym (next-put z L once no-z r t mr new hd no-hd (λ x. d (sym x)) q n k))

          listed : (q ≡ t) ⊎ (Mem q L × (q ≢ r)) → upd nx (node z hd (pv r)) t q ≡ next_in z q (hd ∷ replace r t L)
          listed (inl w) =
              subst
              (λ (j : ℕ). upd nx (node z hd (pv r)) t j ≡ next_in z j (hd ∷ replace r t L))
              (sym w)
              (rw (before, upd_other nx (prev_from z hd r L) t t (not_t (prev_from z hd r L) (prev_on z hd r L mr)), ne_eqb hd t (λ x. d (sym x)))
              (e ∙ next-page r mr ∙ sym (next-new z r t (λ w. no-z (rw (← w) mr)) L new mr)))
          listed (inr (k, n)) = kept (inr k) n

          go : Mem q (hd ∷ replace r t L) → upd nx (node z hd (pv r)) t q ≡ next_in z q (hd ∷ replace r t L)
          go (inl w) = kept (inl w) (λ x. no-hd (rw (sym w ∙ x) mr))
          go (inr k) = listed (on L once q k)

      prev : (q : ℕ) → Mem q (replace r t L) → upd pv (nx r) t q ≡ prev_from z z q (replace r t L)
      prev q m = go (on L once q m)
        where
          go : (q ≡ t) ⊎ (Mem q L × (q ≢ r)) → upd pv (nx r) t q ≡ prev_from z z q (replace r t L)
          go (inl w) =
              rw (w, next-page r mr, upd_other pv (next_in z r L) t t after_ne)
              (f ∙ K.prevs r mr ∙ sym (prev-new z r t z L new mr))
          go (inr (k, n)) =
              rw (next-page r mr)
              (upd-at pv (λ j. prev_from z z j L) (next_in z r L) t q (K.prevs q k) ∙ sym (prev-put z L once no-z r t mr new q n k))
