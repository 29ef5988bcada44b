-- How the neighbours in a list without repeats change when a page leaves it, takes another's place or comes in front,
-- in the shape of the stores that change the links.
use mathlib.Core.Path.{◌≡◌, refl, sym, ap, ◌∙◌, subst}
use mathlib.Core.Logic.{◌⊎◌, inl, inr, ◌≢◌}
use mathlib.Core.Bool.{Bool, true, false, cond, not}
use mathlib.Core.List.{List, [], ◌∷◌}
use Prim.Native.Nat.{ℕ}
use lib.Dec.{eqb}
use borrow.Author.Tests.{eqb-true, eq-eqb, ne_eqb}
use Rattle.base.specs.Functions.{upd}
use Rattle.base.specs.Lists.{Mem, NoDup, keep}
use Rattle.base.specs.Links.{head_or, next_in, prev_from, others, replace}
use Rattle.base.proofs.Cases.{eq?}

-- a list that r is not on
keep_all : (r : ℕ) (xs : List ℕ) → ¬ Mem r xs → keep (others r) xs ≡ xs
unfolding others
keep_all r [] n = refl
keep_all r (x ∷ xs) n =
    rw (ne_eqb x r (λ e. n (inl (sym e)))) (ap (λ (l : List ℕ). x ∷ l) (keep_all r xs (λ m. n (inr m))))

not-head : (z r : ℕ) (xs : List ℕ) → r ≢ z → ¬ Mem r xs → eqb (head_or z xs) r ≡ false
not-head z r [] d n = ne_eqb z r (λ e. d (sym e))
not-head z r (x ∷ xs) d n = ne_eqb x r (λ e. n (inl (sym e)))

not-next : (z r y : ℕ) (xs : List ℕ) → r ≢ z → ¬ Mem r xs → eqb (next_in z y xs) r ≡ false
not-next z r y [] d n = ne_eqb z r (λ e. d (sym e))
not-next z r y (x ∷ xs) d n = go (eqb x y) (not-next z r y xs d (λ m. n (inr m)))
  where
    go : (t : Bool) → eqb (next_in z y xs) r ≡ false → eqb (cond t (head_or z xs) (next_in z y xs)) r ≡ false
    go true ih = not-head z r xs d (λ m. n (inr m))
    go false ih = ih

not-prev : (z b r y : ℕ) (xs : List ℕ) → r ≢ z → r ≢ b → ¬ Mem r xs → eqb (prev_from z b y xs) r ≡ false
not-prev z b r y [] d c n = ne_eqb z r (λ e. d (sym e))
not-prev z b r y (x ∷ xs) d c n = go (eqb x y) (not-prev z x r y xs d (λ e. n (inl e)) (λ m. n (inr m)))
  where
    go : (t : Bool) → eqb (prev_from z x y xs) r ≡ false → eqb (cond t b (prev_from z x y xs)) r ≡ false
    go true ih = ne_eqb b r (λ e. c (sym e))
    go false ih = ih

-- another page before the list
prev-before : (z b r y : ℕ) (xs : List ℕ) → r ≢ z → ¬ Mem r xs → prev_from z b y xs ≡ cond (eqb (prev_from z r y xs) r) b (prev_from z r y xs)
prev-before z b r y [] d n = rw (ne_eqb z r (λ e. d (sym e)))
prev-before z b r y (x ∷ xs) d n = go (eqb x y)
  where
    go : (t : Bool) → cond t b (prev_from z x y xs) ≡ cond (eqb (cond t r (prev_from z x y xs)) r) b (cond t r (prev_from z x y xs))
    go true = rw (eq-eqb r r refl)
    go false = rw (not-prev z x r y xs d (λ e. n (inl e)) (λ m. n (inr m)))

-- ---- next and previous are inverse

pub next_on : (z y : ℕ) (xs : List ℕ) → (next_in z y xs ≡ z) ⊎ Mem (next_in z y xs) xs
next_on z y [] = inl refl
next_on z y (x ∷ xs) = go (eqb x y) (next_on z y xs)
  where
    first_on : (l : List ℕ) → (head_or z l ≡ z) ⊎ Mem (head_or z l) l
    first_on [] = inl refl
    first_on (a ∷ l) = inr (inl refl)

    later : (n : ℕ) → (n ≡ z) ⊎ Mem n xs → (n ≡ z) ⊎ Mem n (x ∷ xs)
    later n (inl e) = inl e
    later n (inr m) = inr (inr m)

    go : (t : Bool) → (next_in z y xs ≡ z) ⊎ Mem (next_in z y xs) xs →
        (cond t (head_or z xs) (next_in z y xs) ≡ z) ⊎ Mem (cond t (head_or z xs) (next_in z y xs)) (x ∷ xs)
    go true ih = later (head_or z xs) (first_on xs)
    go false ih = later (next_in z y xs) ih

pub next-prev : (z b y : ℕ) (xs : List ℕ) → NoDup xs → Mem y xs → next_in z y xs ≢ z → prev_from z b (next_in z y xs) xs ≡ y
next-prev z b y [] once m d = absurd m
next-prev z b y (x ∷ xs) once m d = go (eq? x y) m d (next-prev z x y xs once.1)
  where
    first : (l : List ℕ) → ¬ Mem x l → head_or z l ≢ z → prev_from z b (head_or z l) (x ∷ l) ≡ x
    first [] n d = absurd (d refl)
    first (a ∷ l) n d = rw (ne_eqb x a (λ e. n (inl e)), eq-eqb a a refl)

    later : (n : ℕ) → (n ≡ z) ⊎ Mem n xs → n ≢ z → eqb x n ≡ false
    later n (inl e) d = absurd (d e)
    later n (inr k) d = ne_eqb x n (λ e. once.0 (rw e k))

    go : (x ≡ y) ⊎ (x ≢ y) → Mem y (x ∷ xs) → cond (eqb x y) (head_or z xs) (next_in z y xs) ≢ z →
        (Mem y xs → next_in z y xs ≢ z → prev_from z x (next_in z y xs) xs ≡ y) →
        prev_from z b (cond (eqb x y) (head_or z xs) (next_in z y xs)) (x ∷ xs) ≡ y
    go (inl p) m d ih = rw (eq-eqb x y p) (first xs once.0 (rw (eq-eqb x y p) at d) ∙ p)
    go (inr p) (inl q) d ih = absurd (p (sym q))
    go (inr p) (inr k) d ih =
        let c : next_in z y xs ≢ z = rw (ne_eqb x y p) at d in
        rw (ne_eqb x y p, later (next_in z y xs) (next_on z y xs) c) (ih k c)

-- ---- r leaves the list

module _ (z r : ℕ) (some-page : r ≢ z) where
  pub head-removed : (xs : List ℕ) → NoDup xs → head_or z (keep (others r) xs) ≡ cond (eqb (head_or z xs) r) (next_in z r xs) (head_or z xs)
  unfolding others
  head-removed [] once = rw (ne_eqb z r (λ e. some-page (sym e)))
  head-removed (x ∷ xs) once = go (eqb x r) refl
    where
      go : (t : Bool) → eqb x r ≡ t →
          head_or z (cond (not t) (x ∷ keep (others r) xs) (keep (others r) xs)) ≡ cond t (cond t (head_or z xs) (next_in z r xs)) x
      go true e = ap (head_or z) (keep_all r xs (λ m. once.0 (rw (eqb-true x r e) m)))
      go false e = refl

  pub next-removed : (y : ℕ) → y ≢ r → (xs : List ℕ) → NoDup xs →
      next_in z y (keep (others r) xs) ≡ cond (eqb (next_in z y xs) r) (next_in z r xs) (next_in z y xs)
  unfolding others
  next-removed y d [] once = rw (ne_eqb z r (λ e. some-page (sym e)))
  next-removed y d (x ∷ xs) once = go (eq? x r) (eq? x y) (next-removed y d xs once.1)
    where
      go : (x ≡ r) ⊎ (x ≢ r) → (x ≡ y) ⊎ (x ≢ y) → next_in z y (keep (others r) xs) ≡ cond (eqb (next_in z y xs) r) (next_in z r xs) (next_in z y xs) →
          next_in z y (cond (not (eqb x r)) (x ∷ keep (others r) xs) (keep (others r) xs)) ≡
          cond (eqb (cond (eqb x y) (head_or z xs) (next_in z y xs)) r) (cond (eqb x r) (head_or z xs) (next_in z r xs)) (cond (eqb x y) (head_or z xs) (next_in z y xs))
      go (inl p) (inl q) ih = absurd (d (sym q ∙ p))
      go (inl p) (inr q) ih =
          let n : ¬ Mem r xs = λ m. once.0 (rw p m) in
          rw (eq-eqb x r p, ne_eqb x y q, not-next z r y xs some-page n, keep_all r xs n)
      go (inr p) (inl q) ih = rw (ne_eqb x r p, eq-eqb x y q) (head-removed xs once.1)
      go (inr p) (inr q) ih = rw (ne_eqb x r p, ne_eqb x y q) ih

  pub prev-removed : (y : ℕ) → y ≢ r → (b : ℕ) → b ≢ r → (xs : List ℕ) → NoDup xs →
      prev_from z b y (keep (others r) xs) ≡ cond (eqb (prev_from z b y xs) r) (prev_from z b r xs) (prev_from z b y xs)
  unfolding others
  prev-removed y d b c [] once = rw (ne_eqb z r (λ e. some-page (sym e)))
  prev-removed y d b c (x ∷ xs) once = go (eq? x r) (eq? x y) (λ (p : x ≢ r). prev-removed y d x p xs once.1)
    where
      go : (x ≡ r) ⊎ (x ≢ r) → (x ≡ y) ⊎ (x ≢ y) →
          (x ≢ r → prev_from z x y (keep (others r) xs) ≡ cond (eqb (prev_from z x y xs) r) (prev_from z x r xs) (prev_from z x y xs)) →
          prev_from z b y (cond (not (eqb x r)) (x ∷ keep (others r) xs) (keep (others r) xs)) ≡
          cond (eqb (cond (eqb x y) b (prev_from z x y xs)) r) (cond (eqb x r) b (prev_from z x r xs)) (cond (eqb x y) b (prev_from z x y xs))
      go (inl p) (inl q) ih = absurd (d (sym q ∙ p))
      go (inl p) (inr q) ih =
          let n : ¬ Mem r xs = λ m. once.0 (rw p m) in
          rw (eq-eqb x r p, ne_eqb x y q, keep_all r xs n, p) (prev-before z b r y xs some-page n)
      go (inr p) (inl q) ih = rw (ne_eqb x r p, eq-eqb x y q, ne_eqb b r c)
      go (inr p) (inr q) ih = rw (ne_eqb x r p, ne_eqb x y q) (ih p)

-- ---- t takes the place of r

module _ (z r t : ℕ) (some-page : r ≢ z) where
  pub head-replaced : (xs : List ℕ) → head_or z (replace r t xs) ≡ cond (eqb (head_or z xs) r) t (head_or z xs)
  head-replaced [] = rw (ne_eqb z r (λ e. some-page (sym e)))
  head-replaced (x ∷ xs) = go (eqb x r)
    where
      go : (u : Bool) → head_or z (cond u (t ∷ xs) (x ∷ replace r t xs)) ≡ cond u t x
      go true = refl
      go false = refl

  pub next-replaced : (y : ℕ) → y ≢ r → y ≢ t → (xs : List ℕ) → NoDup xs → next_in z y (replace r t xs) ≡ cond (eqb (next_in z y xs) r) t (next_in z y xs)
  next-replaced y d c [] once = rw (ne_eqb z r (λ e. some-page (sym e)))
  next-replaced y d c (x ∷ xs) once = go (eq? x r) (eq? x y) (next-replaced y d c xs once.1)
    where
      go : (x ≡ r) ⊎ (x ≢ r) → (x ≡ y) ⊎ (x ≢ y) → next_in z y (replace r t xs) ≡ cond (eqb (next_in z y xs) r) t (next_in z y xs) →
          next_in z y (cond (eqb x r) (t ∷ xs) (x ∷ replace r t xs)) ≡ cond (eqb (cond (eqb x y) (head_or z xs) (next_in z y xs)) r) t (cond (eqb x y) (head_or z xs) (next_in z y xs))
      go (inl p) (inl q) ih = absurd (d (sym q ∙ p))
      go (inl p) (inr q) ih =
          let n : ¬ Mem r xs = λ m. once.0 (rw p m) in
          rw (eq-eqb x r p, ne_eqb x y q, not-next z r y xs some-page n, ne_eqb t y (λ e. c (sym e)))
      go (inr p) (inl q) ih = rw (ne_eqb x r p, eq-eqb x y q) (head-replaced xs)
      go (inr p) (inr q) ih = rw (ne_eqb x r p, ne_eqb x y q) ih

  pub next-new : (xs : List ℕ) → ¬ Mem t xs → Mem r xs → next_in z t (replace r t xs) ≡ next_in z r xs
  next-new [] n m = absurd m
  next-new (x ∷ xs) n m = go (eq? x r) m (next-new xs (λ k. n (inr k)))
    where
      go : (x ≡ r) ⊎ (x ≢ r) → Mem r (x ∷ xs) → (Mem r xs → next_in z t (replace r t xs) ≡ next_in z r xs) →
          next_in z t (cond (eqb x r) (t ∷ xs) (x ∷ replace r t xs)) ≡ cond (eqb x r) (head_or z xs) (next_in z r xs)
      go (inl p) m ih = rw (eq-eqb x r p, eq-eqb t t refl)
      go (inr p) (inl q) ih = absurd (p (sym q))
      go (inr p) (inr k) ih = rw (ne_eqb x r p, ne_eqb x t (λ e. n (inl (sym e)))) (ih k)

pub eqb_iff : (a b c d : ℕ) → (a ≡ b → c ≡ d) → (c ≡ d → a ≡ b) → eqb a b ≡ eqb c d
eqb_iff a b c d f g = go (eq? a b)
  where
    go : (a ≡ b) ⊎ (a ≢ b) → eqb a b ≡ eqb c d
    go (inl e) = eq-eqb a b e ∙ sym (eq-eqb c d (f e))
    go (inr e) = ne_eqb a b e ∙ sym (ne_eqb c d (λ h. e (g h)))

eqb_comm : (a b : ℕ) → eqb a b ≡ eqb b a
eqb_comm a b = eqb_iff a b b a sym sym

not_in : {x y : ℕ} (xs : List ℕ) → Mem x xs → ¬ Mem y xs → x ≢ y
not_in xs m n e = n (rw (← e) m)

-- t takes the place of r
prev-replaced : (z r t y : ℕ) → r ≢ z → y ≢ r → y ≢ t → (b : ℕ) → b ≢ r → (xs : List ℕ) → NoDup xs →
    prev_from z b y (replace r t xs) ≡ cond (eqb (prev_from z b y xs) r) t (prev_from z b y xs)
prev-replaced z r t y s d e b n [] once = rw (ne_eqb z r (λ q. s (sym q)))
prev-replaced z r t y s d e b n (x ∷ xs) once = go (eq? x r) (eq? x y) (λ (h : x ≢ r). prev-replaced z r t y s d e x h xs once.1)
  where
    go : (x ≡ r) ⊎ (x ≢ r) → (x ≡ y) ⊎ (x ≢ y) → (x ≢ r → prev_from z x y (replace r t xs) ≡ cond (eqb (prev_from z x y xs) r) t (prev_from z x y xs)) →
        prev_from z b y (cond (eqb x r) (t ∷ xs) (x ∷ replace r t xs)) ≡ cond (eqb (cond (eqb x y) b (prev_from z x y xs)) r) t (cond (eqb x y) b (prev_from z x y xs))
    go (inl p) (inl q) ih = absurd (d (sym q ∙ p))
    go (inl p) (inr q) ih =
        rw (eq-eqb x r p, ne_eqb x y q, ne_eqb t y (λ h. e (sym h)), p) (prev-before z t r y xs s (λ m. once.0 (rw p m)))
    go (inr p) (inl q) ih = rw (ne_eqb x r p, eq-eqb x y q, ne_eqb b r n)
    go (inr p) (inr q) ih = rw (ne_eqb x r p, ne_eqb x y q) (ih p)

pub prev-new : (z r t b : ℕ) (xs : List ℕ) → ¬ Mem t xs → Mem r xs → prev_from z b t (replace r t xs) ≡ prev_from z b r xs
prev-new z r t b (x ∷ xs) n m = go (eq? x r) m (prev-new z r t x xs (λ k. n (inr k)))
  where
    go : (x ≡ r) ⊎ (x ≢ r) → Mem r (x ∷ xs) → (Mem r xs → prev_from z x t (replace r t xs) ≡ prev_from z x r xs) →
        prev_from z b t (cond (eqb x r) (t ∷ xs) (x ∷ replace r t xs)) ≡ cond (eqb x r) b (prev_from z x r xs)
    go (inl p) m ih = rw (eq-eqb x r p, eq-eqb t t refl)
    go (inr p) (inl q) ih = absurd (p (sym q))
    go (inr p) (inr k) ih = rw (ne_eqb x r p, ne_eqb x t (λ e. n (inl (sym e)))) (ih k)
prev-new z r t b [] n m = elim m [ ]

-- the page before one that is on the list
pub prev_on : (z b r : ℕ) (xs : List ℕ) → Mem r xs → Mem (prev_from z b r xs) (b ∷ xs)
prev_on z b r (x ∷ xs) m = go (eq? x r) m (prev_on z x r xs)
  where
    go : (x ≡ r) ⊎ (x ≢ r) → Mem r (x ∷ xs) → (Mem r xs → Mem (prev_from z x r xs) (x ∷ xs)) → Mem (cond (eqb x r) b (prev_from z x r xs)) (b ∷ x ∷ xs)
    go (inl e) m ih = rw (eq-eqb x r e) (inl refl)
    go (inr e) (inl p) ih = absurd (e (sym p))
    go (inr e) (inr m) ih =
        let q : cond (eqb x r) b (prev_from z x r xs) ≡ prev_from z x r xs = rw (ne_eqb x r e) refl in
        subst (λ (w : ℕ). Mem w (b ∷ x ∷ xs)) (sym q) (inr (ih m))
prev_on z b r [] m = elim m [ ]

pub prev-next : (z b r : ℕ) (xs : List ℕ) → NoDup (b ∷ xs) → Mem r xs → next_in z (prev_from z b r xs) (b ∷ xs) ≡ r
prev-next z b r (x ∷ xs) once m = go (eq? x r) m (prev-next z x r xs once.1)
  where
    go : (x ≡ r) ⊎ (x ≢ r) → Mem r (x ∷ xs) → (Mem r xs → next_in z (prev_from z x r xs) (x ∷ xs) ≡ r) →
        next_in z (cond (eqb x r) b (prev_from z x r xs)) (b ∷ x ∷ xs) ≡ r
    go (inl e) m ih = rw (eq-eqb x r e, eq-eqb b b refl) e
    go (inr e) (inl p) ih = absurd (e (sym p))
    go (inr e) (inr m) ih =
        let q : cond (eqb x r) b (prev_from z x r xs) ≡ prev_from z x r xs = rw (ne_eqb x r e) refl in
        subst
        (λ (w : ℕ). next_in z w (b ∷ x ∷ xs) ≡ r)
        (sym q)
        (rw (ne_eqb b (prev_from z x r xs) (λ q. once.0 (subst (λ (w : ℕ). Mem w (x ∷ xs)) (sym q) (prev_on z x r xs m)))) (ih m))
prev-next z b r [] once m = elim m [ ]

module _ (z : ℕ) (L : List ℕ) (once : NoDup L) (no-z : ¬ Mem z L) where
  -- the page after y is r exactly when the page before r is y
  pub adjacent : (hd : ℕ) → ¬ Mem hd L → (y r : ℕ) → Mem y (hd ∷ L) → Mem r L → eqb (next_in z y (hd ∷ L)) r ≡ eqb y (prev_from z hd r L)
  adjacent hd new y r my mr = eqb_iff _ _ _ _ there back
    where
      ne : hd ≢ r
      ne e = new (rw e mr)

      there : next_in z y (hd ∷ L) ≡ r → y ≡ prev_from z hd r L
      there e =
          let a : prev_from z z (next_in z y (hd ∷ L)) (hd ∷ L) ≡ y = next-prev z z y (hd ∷ L) (new, once) my (λ q. no-z (rw (sym q ∙ e) mr)) in
          sym a ∙ rw (e, ne_eqb hd r ne)

      back : y ≡ prev_from z hd r L → next_in z y (hd ∷ L) ≡ r
      back e = subst (λ (w : ℕ). next_in z w (hd ∷ L) ≡ r) (sym e) (prev-next z hd r L (new, once) mr)

  -- the page before y is r exactly when the page after r is y
  pub adjacent_back : (y r : ℕ) → Mem y L → Mem r L → eqb (prev_from z z y L) r ≡ eqb y (next_in z r L)
  adjacent_back y r my mr =
      eqb_comm (prev_from z z y L) r ∙ sym (rw (ne_eqb z r (λ e. no-z (rw e mr))) at (adjacent z no-z r y (inr mr) my)) ∙ eqb_comm (next_in z r L) y

  -- ---- r leaves the list
  module _ (r : ℕ) (mr : Mem r L) where
    some-page : r ≢ z
    some-page e = no-z (rw (← e) mr)

    pub next-left : (hd : ℕ) → ¬ Mem hd L → (y : ℕ) → y ≢ r → Mem y (hd ∷ L) →
        next_in z y (hd ∷ keep (others r) L) ≡ upd (λ q. next_in z q (hd ∷ L)) (prev_from z hd r L) (next_in z r L) y
    unfolding others upd
    next-left hd new y d my =
        let ne : hd ≢ r = λ e. new (rw e mr) in
        rw (← adjacent hd new y r my mr) (rw (ne_eqb hd r ne) at (next-removed z r some-page y d (hd ∷ L) (new, once)))

    pub prev-left : (y : ℕ) → y ≢ r → Mem y L → prev_from z z y (keep (others r) L) ≡ upd (λ q. prev_from z z q L) (next_in z r L) (prev_from z z r L) y
    unfolding upd
    prev-left y d my =
        prev-removed z r some-page y d z (λ e. some-page (sym e)) L once
        ∙ rw (adjacent_back y r my mr)

  -- ---- t takes the place of r
  module _ (r t : ℕ) (mr : Mem r L) (new-t : ¬ Mem t L) where
    pub next-put : (hd : ℕ) → ¬ Mem hd L → hd ≢ t → (y : ℕ) → y ≢ r → Mem y (hd ∷ L) →
        next_in z y (hd ∷ replace r t L) ≡ upd (λ q. next_in z q (hd ∷ L)) (prev_from z hd r L) t y
    unfolding upd
    next-put hd new e y d my =
        let ne : hd ≢ r = λ q. new (rw q mr) in
        rw (← adjacent hd new y r my mr) (rw (ne_eqb hd r ne) at (next-replaced z r t (not_in L mr no-z) y d (fresh my) (hd ∷ L) (new, once)))
      where
        fresh : Mem y (hd ∷ L) → y ≢ t
        fresh (inl p) q = e (sym p ∙ q)
        fresh (inr m) q = not_in L m new-t q

    pub prev-put : (y : ℕ) → y ≢ r → Mem y L → prev_from z z y (replace r t L) ≡ upd (λ q. prev_from z z q L) (next_in z r L) t y
    unfolding upd
    prev-put y d my =
        prev-replaced z r t y (not_in L mr no-z) d (not_in L my new-t) z (λ e. not_in L mr no-z (sym e)) L once
        ∙ rw (adjacent_back y r my mr)

-- ---- t comes in front
pub prev-pushed : (z t : ℕ) (L : List ℕ) → ¬ Mem t L → (y : ℕ) → Mem y L → prev_from z z y (t ∷ L) ≡ upd (λ q. prev_from z z q L) (head_or z L) t y
unfolding upd
prev-pushed z t (x ∷ L) new y my = rw (ne_eqb t y (λ e. not_in (x ∷ L) my new (sym e))) (go (eq? x y))
  where
    go : (x ≡ y) ⊎ (x ≢ y) → cond (eqb x y) t (prev_from z x y L) ≡ cond (eqb y x) t (cond (eqb x y) z (prev_from z x y L))
    go (inl e) = rw (eq-eqb x y e, eq-eqb y x (sym e))
    go (inr e) = rw (ne_eqb x y e, ne_eqb y x (λ q. e (sym q)))
prev-pushed z t [] new y my = elim my [ ]
