-- Laws of `specs/Lists.antt`.
use mathlib.Core.Path.{◌≡◌, refl}
use mathlib.Core.Logic.{◌⊎◌, inl, inr}
use mathlib.Core.Bool.{Bool, true, false, cond, ◌||◌, or-true}
use mathlib.Core.List.{List, [], ◌∷◌, ◌++◌}
use Rattle.base.specs.Lists.{Mem, NoDup, keep, has}
use Rattle.base.proofs.Cases.{clash}

module _ {A : Type 0} where
  pub mem_cast : {x y : A} (xs : List A) → x ≡ y → Mem y xs → Mem x xs
  mem_cast xs p m = rw p m

  -- ---- the elements that pass a test

  pub keep-mem : (q : A → Bool) (x : A) (xs : List A) → Mem x (keep q xs) → Mem x xs × (q x ≡ true)
  keep-mem q x (y ∷ ys) h = go (q y) refl (keep-mem q x ys) h
    where
      go : (t : Bool) → q y ≡ t → (Mem x (keep q ys) → Mem x ys × (q x ≡ true)) → Mem x (cond t (y ∷ keep q ys) (keep q ys)) → Mem x (y ∷ ys) × (q x ≡ true)
      go true e ih (inl p) = (inl p, rw p e)
      go true e ih (inr m) = (inr (ih m).0, (ih m).1)
      go false e ih m = (inr (ih m).0, (ih m).1)
  keep-mem q x [] h = elim h [ ]

  pub mem-keep : (q : A → Bool) (x : A) (xs : List A) → Mem x xs → q x ≡ true → Mem x (keep q xs)
  mem-keep q x (y ∷ ys) (inl p) e = rw (← p, e) (inl refl)
  mem-keep q x (y ∷ ys) (inr m) e = go (q y) (mem-keep q x ys m e)
    where
      go : (t : Bool) → Mem x (keep q ys) → Mem x (cond t (y ∷ keep q ys) (keep q ys))
      go true h = inr h
      go false h = h
  mem-keep q x [] x3 e = elim x3 [ ]

  pub keep-once : (q : A → Bool) (xs : List A) → NoDup xs → NoDup (keep q xs)
  keep-once q [] h = tt
  keep-once q (y ∷ ys) h = go (q y) (keep-once q ys h.1)
    where
      go : (t : Bool) → NoDup (keep q ys) → NoDup (cond t (y ∷ keep q ys) (keep q ys))
      go true d = (λ m. h.0 (keep-mem q y ys m).0, d)
      go false d = d

  -- ---- some element that passes a test

  pub has-mem : (q : A → Bool) (xs : List A) → has q xs ≡ true → (x : A) × Mem x xs × (q x ≡ true)
  has-mem q [] h = absurd (clash h refl)
  has-mem q (x ∷ xs) h = go (q x) refl h (has-mem q xs)
    where
      go : (t : Bool) → q x ≡ t → t || has q xs ≡ true → (has q xs ≡ true → (y : A) × Mem y xs × (q y ≡ true)) → (y : A) × Mem y (x ∷ xs) × (q y ≡ true)
      go true e h ih = (x, inl refl, e)
      go false e h ih = let (y, m, k) = ih h in (y, inr m, k)

  pub mem-has : (q : A → Bool) (xs : List A) (x : A) → Mem x xs → q x ≡ true → has q xs ≡ true
  mem-has q (y ∷ ys) x (inl p) e = rw (← p, e)
  mem-has q (y ∷ ys) x (inr m) e = rw (mem-has q ys x m e) (or-true (q y))
  mem-has q [] x x4 e = elim x4 [ ]

  -- ---- two lists in a row

  pub mem_append : (x : A) (xs ys : List A) → Mem x (xs ++ ys) → Mem x xs ⊎ Mem x ys
  mem_append x [] ys m = inr m
  mem_append x (a ∷ xs) ys (inl p) = inl (inl p)
  mem_append x (a ∷ xs) ys (inr m) = go (mem_append x xs ys m)
    where
      go : Mem x xs ⊎ Mem x ys → Mem x (a ∷ xs) ⊎ Mem x ys
      go (inl n) = inl (inr n)
      go (inr n) = inr n

  pub append_left : (x : A) (xs ys : List A) → Mem x xs → Mem x (xs ++ ys)
  append_left x (a ∷ xs) ys (inl p) = inl p
  append_left x (a ∷ xs) ys (inr m) = inr (append_left x xs ys m)
  append_left x [] ys x'' = elim x'' [ ]

  pub append_right : (x : A) (xs ys : List A) → Mem x ys → Mem x (xs ++ ys)
  append_right x [] ys m = m
  append_right x (a ∷ xs) ys m = inr (append_right x xs ys m)
