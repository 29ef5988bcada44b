-- The list of free runs stays that of the maximal free stretches when pages are taken and released; g tells the free pages before, g' after.
use mathlib.Core.Path.{◌≡◌, refl, sym, ap, ◌∙◌}
use mathlib.Core.Logic.{◌⊎◌, inl, inr, ◌≢◌}
use mathlib.Core.Bool.{Bool, true, false, cond, ◌&&◌, not}
use mathlib.Core.Option.{none, some}
use mathlib.Core.List.{List, [], ◌∷◌, ◌++◌}
use Prim.Native.Nat.{ℕ, suc, ◌+◌, ◌-◌, ◌≤◌, ◌<◌}
use native.Mathlib.Omega.{arith}
use lib.Dec.{eqb, leb, ltb}
use borrow.Author.Tests.{ltb-true, leb-true, leb-false, eqb-true, eqb-false, not-true, lt-ltb, ne_eqb}
use Rattle.base.specs.Lists.{Mem, NoDup}
use Rattle.base.proofs.Cases.{clash, never, eq?, lt?, Out, in?, and_true}
use Rattle.base.proofs.Lists.{mem_cast, keep-mem, mem-keep, keep-once, mem_append, append_left, append_right}
use Rattle.model.specs.State.{Run}
use Rattle.model.specs.Runs.{fit, cut_front, carve, end, len_at, starts_at, ends_at, clear_of, joined, join_runs}
use Rattle.model.specs.WellFormed.{Stretch, RunsOk}

-- ---- two maximal stretches with a common page are one

pub run_path : {a b : Run} → a.start ≡ b.start → a.len ≡ b.len → a ≡ b
run_path p q = λ i. record { start = p i; len = q i }

module _ {g : ℕ → Bool} where
  not_lower : {a b : Run} → Stretch g a → Stretch g b → (j : ℕ) → a.start ≤ j → j < a.start + a.len → b.start ≤ j → j < b.start + b.len → b.start ≤ a.start
  not_lower {a} {b} A B j p q r s = go (lt? a.start b.start)
    where
      go : (a.start < b.start) ⊎ (b.start ≤ a.start) → b.start ≤ a.start
      go (inl h) = absurd (clash (A.all_free (b.start - 1) (omega arith) (omega arith)) (B.low_end (b.start - 1) (omega arith)))
      go (inr h) = h

  not_higher : {a b : Run} → Stretch g a → Stretch g b → (j : ℕ) → a.start ≤ j → j < a.start + a.len → b.start ≤ j → j < b.start + b.len → a.start + a.len ≤ b.start + b.len
  not_higher {a} {b} A B j p q r s = go (lt? (b.start + b.len) (a.start + a.len))
    where
      go : (b.start + b.len < a.start + a.len) ⊎ (a.start + a.len ≤ b.start + b.len) → a.start + a.len ≤ b.start + b.len
      go (inl h) = absurd (clash (A.all_free (b.start + b.len) (omega arith) (omega arith)) (B.high_end (b.start + b.len) refl))
      go (inr h) = h

  pub same_run : {a b : Run} → Stretch g a → Stretch g b → (j : ℕ) → a.start ≤ j → j < a.start + a.len → b.start ≤ j → j < b.start + b.len → a ≡ b
  same_run {a} {b} A B j p q r s =
      let l₁ : b.start ≤ a.start = not_lower A B j p q r s in
      let l₂ : a.start ≤ b.start = not_lower B A j r s p q in
      let h₁ : a.start + a.len ≤ b.start + b.len = not_higher A B j p q r s in
      let h₂ : b.start + b.len ≤ a.start + a.len = not_higher B A j r s p q in
      run_path (omega arith) (omega arith)

pub runs_same : {g g' : ℕ → Bool} {rs : List Run} → RunsOk g rs → ((j : ℕ) → g' j ≡ g j) → RunsOk g' rs
runs_same ok h = record {
  once = ok.once;
  sound = λ r m. record {
    some-page = (ok.sound r m).some-page;
    all_free = λ j a b. h j ∙ (ok.sound r m).all_free j a b;
    low_end = λ j a. h j ∙ (ok.sound r m).low_end j a;
    high_end = λ j a. h j ∙ (ok.sound r m).high_end j a;
  };
  covers = λ j e. ok.covers j (sym (h j) ∙ e);
}

-- ---- the first fit

pub fit_found : (k : ℕ) (rs : List Run) (r : Run) → fit k rs ≡ some r → Mem r rs × (k ≤ r.len)
fit_found k [] r e = absurd (never (cc))
fit_found k (y ∷ ys) r e = go (leb k y.len) refl (fit_found k ys r) e
  where
    go : (t : Bool) → leb k y.len ≡ t → (fit k ys ≡ some r → Mem r ys × (k ≤ r.len)) → cond t (some y) (fit k ys) ≡ some r → Mem r (y ∷ ys) × (k ≤ r.len)
    go true d ih e = let q : r ≡ y = cc in (inl q, rw q (leb-true _ _ d))
    go false d ih e = (inr (ih e).0, (ih e).1)

pub fit_none : (k : ℕ) (rs : List Run) → fit k rs ≡ none → (x : Run) → Mem x rs → x.len < k
fit_none k (y ∷ ys) e x m = go (leb k y.len) refl e (fit_none k ys) m
  where
    go : (t : Bool) → leb k y.len ≡ t → cond t (some y) (fit k ys) ≡ none → (fit k ys ≡ none → (x : Run) → Mem x ys → x.len < k) → Mem x (y ∷ ys) → x.len < k
    go true d e ih m = absurd (never (cc))
    go false d e ih (inl q) = rw q (leb-false k y.len d)
    go false d e ih (inr m) = ih e x m
fit_none k [] e x m = elim m [ ]

-- ---- pages taken from the front of a run

-- what is left of r after its front k pages
abbrev pub remains : ℕ → Run → Run
remains k r = record { start = r.start + k; len = r.len - k }

pub cut-mem : (k : ℕ) (r x : Run) → Mem x (cut_front k r) → (x ≡ remains k r) × (k < r.len)
unfolding cut_front
cut-mem k r x = go (ltb k r.len) refl
  where
    go : (t : Bool) → ltb k r.len ≡ t → Mem x (cond t (remains k r ∷ []) []) → (x ≡ remains k r) × (k < r.len)
    go true e (inl p) = (p, ltb-true _ _ e)
    go true e (inr x5) = elim x5 [ ]
    go false e x3 = elim x3 [ ]

pub mem-cut : (k : ℕ) (r : Run) → k < r.len → Mem (remains k r) (cut_front k r)
unfolding cut_front
mem-cut k r h = rw (lt-ltb k r.len h) (inl refl)

-- a run of the new list is what is left of r, or another run of the old list
pub carve-from : (k : ℕ) (rs : List Run) (r x : Run) → fit k rs ≡ some r → NoDup rs → Mem x (carve k rs) → Mem x (cut_front k r) ⊎ (Mem x rs × (x ≢ r))
carve-from k (y ∷ ys) r x e d m = go (leb k y.len) (carve-from k ys r x) e d m
  where
    go : (t : Bool) → (fit k ys ≡ some r → NoDup ys → Mem x (carve k ys) → Mem x (cut_front k r) ⊎ (Mem x ys × (x ≢ r))) →
        cond t (some y) (fit k ys) ≡ some r → NoDup (y ∷ ys) → Mem x (cond t (cut_front k y ++ ys) (y ∷ carve k ys)) →
        Mem x (cut_front k r) ⊎ (Mem x (y ∷ ys) × (x ≢ r))
    go true ih e d m =
        let q : y ≡ r = cc in
        side q (mem_append x (cut_front k y) ys m)
      where
        side : y ≡ r → Mem x (cut_front k y) ⊎ Mem x ys → Mem x (cut_front k r) ⊎ (Mem x (y ∷ ys) × (x ≢ r))
        side q (inl n) = inl (rw q at n)
        side q (inr n) = inr (inr n, λ p. d.0 (mem_cast ys (q ∙ sym p) n))
    go false ih e d (inl p) = inr (inl p, λ q. d.0 (mem_cast ys (sym p ∙ q) (fit_found k ys r e).0))
    go false ih e d (inr m) = side (ih e d.1 m)
      where
        side : Mem x (cut_front k r) ⊎ (Mem x ys × (x ≢ r)) → Mem x (cut_front k r) ⊎ (Mem x (y ∷ ys) × (x ≢ r))
        side (inl n) = inl n
        side (inr n) = inr (inr n.0, n.1)
carve-from k [] r x e d m = elim m [ ]

-- every other run, and what is left of r, is in the new list
pub carve-rest : (k : ℕ) (rs : List Run) (r x : Run) → fit k rs ≡ some r → Mem x (cut_front k r) → Mem x (carve k rs)
carve-rest k [] r x e m = absurd (never (cc))
carve-rest k (y ∷ ys) r x e m = go (leb k y.len) (carve-rest k ys r x) e
  where
    go : (t : Bool) → (fit k ys ≡ some r → Mem x (cut_front k r) → Mem x (carve k ys)) → cond t (some y) (fit k ys) ≡ some r →
        Mem x (cond t (cut_front k y ++ ys) (y ∷ carve k ys))
    go true ih e = let q : y ≡ r = cc in append_left x (cut_front k y) ys (rw q m)
    go false ih e = inr (ih e m)

pub carve-keeps : (k : ℕ) (rs : List Run) (r x : Run) → fit k rs ≡ some r → Mem x rs → (x ≡ r) ⊎ Mem x (carve k rs)
carve-keeps k (y ∷ ys) r x e m = go (leb k y.len) (carve-keeps k ys r x) e m
  where
    go : (t : Bool) → (fit k ys ≡ some r → Mem x ys → (x ≡ r) ⊎ Mem x (carve k ys)) → cond t (some y) (fit k ys) ≡ some r → Mem x (y ∷ ys) →
        (x ≡ r) ⊎ Mem x (cond t (cut_front k y ++ ys) (y ∷ carve k ys))
    go true ih e (inl p) = let q : y ≡ r = cc in inl (p ∙ q)
    go true ih e (inr m) = inr (append_right x (cut_front k y) ys m)
    go false ih e (inl p) = inr (inl p)
    go false ih e (inr m) = side (ih e m)
      where
        side : (x ≡ r) ⊎ Mem x (carve k ys) → (x ≡ r) ⊎ Mem x (y ∷ carve k ys)
        side (inl p) = inl p
        side (inr n) = inr (inr n)
carve-keeps k [] r x e m = elim m [ ]

pub carve-once : (k : ℕ) (rs : List Run) (r : Run) → fit k rs ≡ some r → NoDup rs → ((x : Run) → Mem x (cut_front k r) → ¬ Mem x rs) → NoDup (carve k rs)
unfolding cut_front
carve-once k [] r e d new = tt
carve-once k (y ∷ ys) r e d new = go (leb k y.len) (carve-once k ys r) e
  where
    go : (t : Bool) → (fit k ys ≡ some r → NoDup ys → ((x : Run) → Mem x (cut_front k r) → ¬ Mem x ys) → NoDup (carve k ys)) →
        cond t (some y) (fit k ys) ≡ some r → NoDup (cond t (cut_front k y ++ ys) (y ∷ carve k ys))
    go true ih e = let q : y ≡ r = cc in front (ltb k y.len) (λ x m n. new x (rw q at m) (inr n))
      where
        front : (t : Bool) → ((x : Run) → Mem x (cond t (remains k y ∷ []) []) → ¬ Mem x ys) → NoDup (cond t (remains k y ∷ []) [] ++ ys)
        front true h = (h (remains k y) (inl refl), d.1)
        front false h = d.1
    go false ih e =
        (λ m. side (carve-from k ys r y e d.1 m), ih e d.1 (λ x m n. new x m (inr n)))
      where
        side : Mem y (cut_front k r) ⊎ (Mem y ys × (y ≢ r)) → ⊥
        side (inl m) = new y m (inl refl)
        side (inr m) = d.0 m.0

-- The front k pages of the first run that has as many are no longer free, and nothing else changes.
module _ {g g' : ℕ → Bool} {rs : List Run} (ok : RunsOk g rs) (k : ℕ) (some-k : 1 ≤ k) (r : Run) (found : fit k rs ≡ some r)
    (busy : (j : ℕ) → r.start ≤ j → j < r.start + k → g' j ≡ false)
    (same : (j : ℕ) → Out r.start k j → g' j ≡ g j) where
  r_ok : Stretch g r
  r_ok = ok.sound r (fit_found k rs r found).0

  fits : k ≤ r.len
  fits = (fit_found k rs r found).1

  shrinks : (j : ℕ) → g j ≡ false → g' j ≡ false
  shrinks j e = go (in? r.start k j)
    where
      go : ((r.start ≤ j) × (j < r.start + k)) ⊎ Out r.start k j → g' j ≡ false
      go (inl (l, u)) = busy j l u
      go (inr o) = same j o ∙ e

  -- a free page of the new table was free, and is not one of the k pages
  was_free : (j : ℕ) → g' j ≡ true → (g j ≡ true) × Out r.start k j
  was_free j e = go (in? r.start k j)
    where
      go : ((r.start ≤ j) × (j < r.start + k)) ⊎ Out r.start k j → (g j ≡ true) × Out r.start k j
      go (inl (l, u)) = absurd (clash e (busy j l u))
      go (inr o) = (sym (same j o) ∙ e, o)

  rest-new : (x : Run) → (x ≡ remains k r) × (k < r.len) → ¬ Mem x rs
  rest-new x (p, h) n =
      let q : x.start ≡ r.start + k = ap (λ (y : Run). y.start) p in
      clash (r_ok.all_free (r.start + k - 1) (omega arith) (omega arith)) ((ok.sound x n).low_end (r.start + k - 1) (omega arith))

  rest_ok : k < r.len → Stretch g' (remains k r)
  rest_ok h = record {
    some-page = omega arith;
    all_free = λ j a b. same j (inr a) ∙ r_ok.all_free j (omega arith) (omega arith);
    low_end = λ j a. busy j (omega arith) (omega arith);
    high_end = λ j a. same j (inr (omega arith)) ∙ r_ok.high_end j (omega arith);
  }

  other_ok : (x : Run) → Mem x rs → x ≢ r → Stretch g' x
  other_ok x m n =
      let X : Stretch g x = ok.sound x m in
      record {
        some-page = X.some-page;
        all_free = λ j a b. go j a b (in? r.start k j);
        low_end = λ j a. shrinks j (X.low_end j a);
        high_end = λ j a. shrinks j (X.high_end j a);
      }
    where
      go : (j : ℕ) → x.start ≤ j → j < x.start + x.len → ((r.start ≤ j) × (j < r.start + k)) ⊎ Out r.start k j → g' j ≡ true
      go j a b (inl (l, u)) = absurd (n (same_run (ok.sound x m) r_ok j a b l (omega (arith, fits))))
      go j a b (inr o) = same j o ∙ (ok.sound x m).all_free j a b

  pub carved : RunsOk g' (carve k rs)
  carved = record {
    once = carve-once k rs r found ok.once (λ x m n. rest-new x (cut-mem k r x m) n);
    sound = λ x m. sound' x (carve-from k rs r x found ok.once m);
    covers = λ j e. covers' j (was_free j e) (ok.covers j (was_free j e).0);
  }
    where
      sound' : (x : Run) → Mem x (cut_front k r) ⊎ (Mem x rs × (x ≢ r)) → Stretch g' x
      sound' x (inl m) = rw (cut-mem k r x m).0 (rest_ok (cut-mem k r x m).1)
      sound' x (inr m) = other_ok x m.0 m.1

      side : (j : ℕ) → Out r.start k j → (x : Run) → (x.start ≤ j) → (j < x.start + x.len) → (x ≡ r) ⊎ Mem x (carve k rs) →
          (y : Run) × Mem y (carve k rs) × (y.start ≤ j) × (j < y.start + y.len)
      side j z x a b (inr m) = (x, m, a, b)
      side j (inl h) x a b (inl p) = absurd (let q : x.start ≡ r.start = ap (λ (y : Run). y.start) p in omega arith)
      side j (inr h) x a b (inl p) =
          let q : x.start ≡ r.start = ap (λ (y : Run). y.start) p in
          let l : x.len ≡ r.len = ap (λ (y : Run). y.len) p in
          (remains k r, carve-rest k rs r (remains k r) found (mem-cut k r (omega arith)), h, omega arith)

      covers' : (j : ℕ) → (g j ≡ true) × Out r.start k j → (x : Run) × Mem x rs × (x.start ≤ j) × (j < x.start + x.len) →
          (x : Run) × Mem x (carve k rs) × (x.start ≤ j) × (j < x.start + x.len)
      covers' j (e, z) (x, m, a, b) = side j z x a b (carve-keeps k rs r x found m)

-- every maximal stretch is listed
pub stretch_listed : {g : ℕ → Bool} {rs : List Run} → RunsOk g rs → (r : Run) → Stretch g r → Mem r rs
stretch_listed {g} {rs} ok r h =
    let (x, m, a, b) = ok.covers r.start (h.all_free r.start (omega arith) (omega (arith, h.some-page))) in
    mem_cast rs (same_run h (ok.sound x m) r.start (omega arith) (omega (arith, h.some-page)) a b) m

-- ---- pages released

-- a run with the key q is in the list and its length is `len_at key q rs`, or that is 0 and no run has this key
unfoldable pub Keyed : (Run → ℕ) → ℕ → List Run → ℕ → Type 0
Keyed key q rs n = ((x : Run) × Mem x rs × (key x ≡ q) × (x.len ≡ n)) ⊎ ((n ≡ 0) × ((x : Run) → Mem x rs → key x ≢ q))

pub keyed : (key : Run → ℕ) (q : ℕ) (rs : List Run) → Keyed key q rs (len_at key q rs)
unfolding Keyed
keyed key q [] = inr (refl, λ x m. absurd m)
keyed key q (y ∷ ys) = go (eqb (key y) q) refl (keyed key q ys)
  where
    go : (t : Bool) → eqb (key y) q ≡ t → Keyed key q ys (len_at key q ys) → Keyed key q (y ∷ ys) (cond t y.len (len_at key q ys))
    go true e ih = inl (y, inl refl, eqb-true (key y) q e, refl)
    go false e (inl (x, m, p, l)) = inl (x, inr m, p, l)
    go false e (inr (z, n)) = inr (z, λ x m. side x m)
      where
        side : (x : Run) → Mem x (y ∷ ys) → key x ≢ q
        side x (inl p) d = eqb-false (key y) q e (ap key (sym p) ∙ d)
        side x (inr m) d = n x m d

-- a listed run is found by its first page, and by the page after it
module _ {g : ℕ → Bool} {rs : List Run} (ok : RunsOk g rs) (r : Run) (m : Mem r rs) where
  found-by : (key : Run → ℕ) → ((x : Run) → Mem x rs → key x ≡ key r → x ≡ r) → len_at key (key r) rs ≡ r.len
  unfolding Keyed
  found-by key only = go (keyed key (key r) rs)
    where
      go : Keyed key (key r) rs (len_at key (key r) rs) → len_at key (key r) rs ≡ r.len
      go (inl (x, n, e, l)) = sym l ∙ ap (λ (y : Run). y.len) (only x n e)
      go (inr (z, n)) = absurd (n r m refl)

  pub starts_at_lem : starts_at r.start rs ≡ r.len
  starts_at_lem = found-by (λ x. x.start) (λ x n e. same_run (ok.sound x n) (ok.sound r m) r.start (omega arith)
      (omega (arith, (ok.sound x n).some-page)) (omega arith) (omega (arith, (ok.sound r m).some-page)))

  pub ends_at_lem : ends_at (r.start + r.len) rs ≡ r.len
  ends_at_lem = found-by end (λ x n e. same_run (ok.sound x n) (ok.sound r m) (r.start + r.len - 1)
      (omega (arith, (ok.sound x n).some-page)) (omega (arith, (ok.sound r m).some-page)) (omega (arith, (ok.sound r m).some-page)) (omega (arith, (ok.sound r m).some-page)))

pub clear_split : (p k : ℕ) (x : Run) → (clear_of p k x ≡ true) ⊎ ((x.start + x.len ≡ p) ⊎ (x.start ≡ p + k))
unfolding clear_of
clear_split p k x = go (eq? (x.start + x.len) p) (eq? x.start (p + k))
  where
    go : (x.start + x.len ≡ p) ⊎ (x.start + x.len ≢ p) → (x.start ≡ p + k) ⊎ (x.start ≢ p + k) →
        (not (eqb (x.start + x.len) p) && not (eqb x.start (p + k)) ≡ true) ⊎ ((x.start + x.len ≡ p) ⊎ (x.start ≡ p + k))
    go (inl a) b = inr (inl a)
    go (inr a) (inl b) = inr (inr b)
    go (inr a) (inr b) = inl (rw (ne_eqb _ _ a, ne_eqb _ _ b))

pub clear_true : (p k : ℕ) (x : Run) → clear_of p k x ≡ true → (x.start + x.len ≢ p) × (x.start ≢ p + k)
unfolding clear_of
clear_true p k x e =
    let (a, b) = and_true (not (eqb (x.start + x.len) p)) (not (eqb x.start (p + k))) e in
    (eqb-false _ _ (not-true _ a), eqb-false _ _ (not-true _ b))

-- The k pages from p on, none of them free, become free, and nothing else changes.
module _ {g g' : ℕ → Bool} {rs : List Run} (ok : RunsOk g rs) (p k : ℕ) (some-k : 1 ≤ k)
    (busy : (j : ℕ) → p ≤ j → j < p + k → g j ≡ false)
    (freed : (j : ℕ) → p ≤ j → j < p + k → g' j ≡ true)
    (same : (j : ℕ) → Out p k j → g' j ≡ g j) where
  -- a pages below p are free, and the one below them is not
  pub record Below (a : ℕ) : Type 0 where
    pub fits : a ≤ p
    pub all_free : (j : ℕ) → p ≤ j + a → j < p → g j ≡ true
    pub low_end : (j : ℕ) → suc j + a ≡ p → g j ≡ false

  pub below : Below (ends_at p rs)
  unfolding Keyed
  below = go (keyed end p rs)
    where
      last : ((x : Run) → Mem x rs → x.start + x.len ≢ p) → (j : ℕ) → suc j ≡ p → (t : Bool) → g j ≡ t → g j ≡ false
      last n j h false e = e
      last n j h true e =
          let (x, m, a, b) = ok.covers j e in
          absurd (side x m a b (lt? p (x.start + x.len)))
        where
          side : (x : Run) → Mem x rs → x.start ≤ j → j < x.start + x.len → (p < x.start + x.len) ⊎ (x.start + x.len ≤ p) → ⊥
          side x m a b (inl l) = clash ((ok.sound x m).all_free p (omega arith) l) (busy p (omega arith) (omega arith))
          side x m a b (inr l) = n x m (omega arith)

      go : Keyed end p rs (ends_at p rs) → Below (ends_at p rs)
      go (inl (x, m, e, l)) = record {
        fits = omega arith;
        all_free = λ j a b. (ok.sound x m).all_free j (omega arith) (omega arith);
        low_end = λ j a. (ok.sound x m).low_end j (omega arith);
      }
      go (inr (z, n)) = record {
        fits = omega arith;
        all_free = λ j a b. absurd (omega arith);
        low_end = λ j a. last n j (omega arith) (g j) refl;
      }

  -- b pages from p + k on are free, and the one after them is not
  pub record Above (b : ℕ) : Type 0 where
    pub all_free : (j : ℕ) → p + k ≤ j → j < p + k + b → g j ≡ true
    pub high_end : (j : ℕ) → j ≡ p + k + b → g j ≡ false

  pub above : Above (starts_at (p + k) rs)
  unfolding Keyed
  above = go (keyed (λ r. r.start) (p + k) rs)
    where
      last : ((x : Run) → Mem x rs → x.start ≢ p + k) → (j : ℕ) → j ≡ p + k → (t : Bool) → g j ≡ t → g j ≡ false
      last n j h false e = e
      last n j h true e =
          let (x, m, a, b) = ok.covers j e in
          absurd (side x m a b (lt? x.start j))
        where
          side : (x : Run) → Mem x rs → x.start ≤ j → j < x.start + x.len → (x.start < j) ⊎ (j ≤ x.start) → ⊥
          side x m a b (inl l) = clash ((ok.sound x m).all_free (j - 1) (omega arith) (omega arith)) (busy (j - 1) (omega arith) (omega arith))
          side x m a b (inr l) = n x m (omega arith)

      go : Keyed (λ r. r.start) (p + k) rs (starts_at (p + k) rs) → Above (starts_at (p + k) rs)
      go (inl (x, m, e, l)) = record {
        all_free = λ j a b. (ok.sound x m).all_free j (omega arith) (omega arith);
        high_end = λ j a. (ok.sound x m).high_end j (omega arith);
      }
      go (inr (z, n)) = record {
        all_free = λ j a b. absurd (omega arith);
        high_end = λ j a. last n j (omega arith) (g j) refl;
      }

  grows : (j : ℕ) → g j ≡ true → g' j ≡ true
  grows j e = go (in? p k j)
    where
      go : ((p ≤ j) × (j < p + k)) ⊎ Out p k j → g' j ≡ true
      go (inl (l, u)) = freed j l u
      go (inr o) = same j o ∙ e

  pub joined_ok : Stretch g' (joined p k rs)
  unfolding joined
  joined_ok = record {
    some-page = omega arith;
    all_free = λ j a b. mid j a b (in? p k j);
    low_end = λ j a. same j (inl (omega (arith, below.fits))) ∙ below.low_end j (omega (arith, below.fits));
    high_end = λ j a. same j (inr (omega (arith, below.fits))) ∙ above.high_end j (omega (arith, below.fits));
  }
    where
      mid : (j : ℕ) → p - ends_at p rs ≤ j → j < p - ends_at p rs + (ends_at p rs + k + starts_at (p + k) rs) → ((p ≤ j) × (j < p + k)) ⊎ Out p k j → g' j ≡ true
      mid j a b (inl (l, u)) = freed j l u
      mid j a b (inr (inl l)) = same j (inl l) ∙ below.all_free j (omega arith) l
      mid j a b (inr (inr h)) = same j (inr h) ∙ above.all_free j h (omega (arith, below.fits))

  -- a run that stays
  apart_ok : (x : Run) → Mem x rs → x.start + x.len ≢ p → x.start ≢ p + k → Stretch g' x
  apart_ok x m e s =
      let X : Stretch g x = ok.sound x m in
      record {
        some-page = X.some-page;
        all_free = λ j a b. grows j (X.all_free j a b);
        low_end = λ j a. lo j a (in? p k j);
        high_end = λ j a. hi j a (in? p k j);
      }
    where
      lo : (j : ℕ) → suc j ≡ x.start → ((p ≤ j) × (j < p + k)) ⊎ Out p k j → g' j ≡ false
      lo j a (inl (l, h)) = absurd (clash ((ok.sound x m).all_free (suc j) (omega arith) (omega (arith, (ok.sound x m).some-page))) (busy (suc j) (omega arith) (omega arith)))
      lo j a (inr o) = same j o ∙ (ok.sound x m).low_end j a

      hi : (j : ℕ) → j ≡ x.start + x.len → ((p ≤ j) × (j < p + k)) ⊎ Out p k j → g' j ≡ false
      hi j a (inl (l, h)) = absurd (clash ((ok.sound x m).all_free (j - 1) (omega (arith, (ok.sound x m).some-page)) (omega (arith, (ok.sound x m).some-page))) (busy (j - 1) (omega arith) (omega arith)))
      hi j a (inr o) = same j o ∙ (ok.sound x m).high_end j a

  -- a run that ends at p, or starts at p + k, lies in the joined run
  ends_in : (x : Run) → Mem x rs → x.start + x.len ≡ p → p - ends_at p rs ≤ x.start
  ends_in x m e = go (lt? x.start (p - ends_at p rs))
    where
      go : (x.start < p - ends_at p rs) ⊎ (p - ends_at p rs ≤ x.start) → p - ends_at p rs ≤ x.start
      go (inl l) = absurd (clash ((ok.sound x m).all_free (p - ends_at p rs - 1) (omega arith) (omega arith)) (below.low_end (p - ends_at p rs - 1) (omega (arith, below.fits))))
      go (inr l) = l

  starts_in : (x : Run) → Mem x rs → x.start ≡ p + k → x.start + x.len ≤ p + k + starts_at (p + k) rs
  starts_in x m e = go (lt? (p + k + starts_at (p + k) rs) (x.start + x.len))
    where
      go : (p + k + starts_at (p + k) rs < x.start + x.len) ⊎ (x.start + x.len ≤ p + k + starts_at (p + k) rs) → x.start + x.len ≤ p + k + starts_at (p + k) rs
      go (inl l) = absurd (clash ((ok.sound x m).all_free (p + k + starts_at (p + k) rs) (omega arith) l) (above.high_end _ refl))
      go (inr l) = l

  pub released : RunsOk g' (join_runs p k rs)
  unfolding join_runs clear_of joined
  released = record {
    once = (λ m. new (keep-mem (clear_of p k) _ rs m).0, keep-once (clear_of p k) rs ok.once);
    sound = sound';
    covers = λ j e. covers' j e (in? p k j);
  }
    where
      new : ¬ Mem (joined p k rs) rs
      new m = clash ((ok.sound _ m).all_free p (omega arith) (omega (arith, below.fits))) (busy p (omega arith) (omega arith))

      sound' : (x : Run) → Mem x (join_runs p k rs) → Stretch g' x
      sound' x (inl q) = rw q joined_ok
      sound' x (inr m) =
          let (n, t) = keep-mem (clear_of p k) x rs m in
          apart_ok x n (clear_true p k x t).0 (clear_true p k x t).1

      side : (j : ℕ) → (x : Run) × Mem x rs × (x.start ≤ j) × (j < x.start + x.len) → (x : Run) × Mem x (join_runs p k rs) × (x.start ≤ j) × (j < x.start + x.len)
      side j (x, m, a, b) = go (clear_split p k x)
        where
          go : (clear_of p k x ≡ true) ⊎ ((x.start + x.len ≡ p) ⊎ (x.start ≡ p + k)) → (x : Run) × Mem x (join_runs p k rs) × (x.start ≤ j) × (j < x.start + x.len)
          go (inl t) = (x, inr (mem-keep (clear_of p k) x rs m t), a, b)
          go (inr (inl t)) = (joined p k rs, inl refl, omega (arith, ends_in x m t), omega (arith, below.fits))
          go (inr (inr t)) = (joined p k rs, inl refl, omega arith, omega (arith, below.fits, starts_in x m t))

      covers' : (j : ℕ) → g' j ≡ true → ((p ≤ j) × (j < p + k)) ⊎ Out p k j → (x : Run) × Mem x (join_runs p k rs) × (x.start ≤ j) × (j < x.start + x.len)
      covers' j e (inl (a, b)) = (joined p k rs, inl refl, omega arith, omega (arith, below.fits))
      covers' j e (inr o) = side j (ok.covers j (sym (same j o) ∙ e))
