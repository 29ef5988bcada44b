-- The table of free runs does what the model's list of free runs does.
use mathlib.Core.Path.{◌≡◌, refl, sym, ap, ◌∙◌}
use mathlib.Core.Logic.{◌⊎◌, inl, inr, ◌≢◌}
use mathlib.Core.Bool.{Bool, true, false, cond, ◌&&◌, not}
use mathlib.Core.List.{List, [], ◌∷◌, ◌++◌}
use Prim.Native.Nat.{ℕ, zero, suc, ◌+◌, ◌-◌, ◌≤◌, ◌<◌}
use native.Mathlib.Nat.{mod-eq_of_lt}
use native.Mathlib.Omega.{arith}
use lib.Dec.{eqb, leb}
use lib.ListN.{length, get_or}
use borrow.Author.Tests.{eqb-true, leb-true, lt-ltb, le-ltb, eq-eqb, ne_eqb}
use Rattle.base.specs.Tests.{pick}
use Rattle.base.specs.Lists.{Mem, keep}
use Rattle.base.proofs.Cases.{eq?, lt?}
use Rattle.model.specs.State.{Run}
use Rattle.model.specs.Runs.{fit, cut_front, carve, end, len_at, starts_at, ends_at, clear_of, joined, join_runs}
use Rattle.plain.specs.declared.Extent.{Extent}
use Rattle.plain.proofs.Loops.{length-remade, get_d_remade}
use Rattle.plain.specs.Arrays.{remade, place_of, pushed}
use Rattle.plain.specs.Table.{vacant, is_vacant, wrap, cut, holds, ends_before, begins_at, apart, whole, run_of, read_runs, first_fit, run_at, carved_at, len_of, cleared, released}

-- ---- an entry at the head of a table

pub read_none : read_runs [] ≡ []
unfolding read_runs
read_none = refl

pub read-vacant : (e : Extent) (t : List Extent) → e.len ≡ 0 → read_runs (e ∷ t) ≡ read_runs t
unfolding read_runs is_vacant pick
read-vacant e t h = rw (eq-eqb e.len 0 h)

pub read-run : (e : Extent) (t : List Extent) → e.len ≢ 0 → read_runs (e ∷ t) ≡ run_of e ∷ read_runs t
unfolding read_runs is_vacant pick
read-run e t h = rw (ne_eqb e.len 0 h)

-- ---- first fit

run-next : (e : Extent) (t : List Extent) (i : ℕ) → run_at (e ∷ t) (suc i) ≡ run_at t i
unfolding run_at pick
run-next e t i = go (lt? i (length t))
  where
    go : (i < length t) ⊎ (length t ≤ i) → run_at (e ∷ t) (suc i) ≡ run_at t i
    go (inl h) = rw (lt-ltb i (length t) h, lt-ltb (suc i) (suc (length t)) (omega arith))
    go (inr h) = rw (le-ltb i (length t) h, le-ltb (suc i) (suc (length t)) (omega arith))

pub fit-read : (k : ℕ) (t : List Extent) → 1 ≤ k → fit k (read_runs t) ≡ run_at t (first_fit k t)
unfolding read_runs is_vacant first_fit holds place_of run_at run_of pick
fit-read k [] h = refl
fit-read k (e ∷ t) h = go (eqb e.len 0) (leb k e.len) refl refl (fit-read k t h)
  where
    go : (v l : Bool) → eqb e.len 0 ≡ v → leb k e.len ≡ l → fit k (read_runs t) ≡ run_at t (place_of (holds k) t)
        → fit k (pick v (read_runs t) (run_of e ∷ read_runs t)) ≡ run_at (e ∷ t) (pick l 0 (suc (place_of (holds k) t)))
    go true true a b ih = absurd (omega (arith, eqb-true e.len 0 a, leb-true k e.len b))
    go true false a b ih = ih ∙ sym (run-next e t (place_of (holds k) t))
    go false true a b ih = rw (b, lt-ltb 0 (suc (length t)) (omega arith))
    go false false a b ih = rw b (ih ∙ sym (run-next e t (place_of (holds k) t)))

-- ---- pages taken from the front of a run

-- the runs that a table shows end below the wrap
abbrev pub Small : List Extent → Type 0
Small t = (r : Run) → Mem r (read_runs t) → r.start + r.len < 4294967296

small-rest : (e : Extent) (t : List Extent) → Small (e ∷ t) → Small t
small-rest e t h = go (eq? e.len 0)
  where
    go : (e.len ≡ 0) ⊎ (e.len ≢ 0) → Small t
    go (inl v) r m = h r (rw (read-vacant e t v) m)
    go (inr v) r m = h r (rw (read-run e t v) (inr m))

small-head : (e : Extent) (t : List Extent) → Small (e ∷ t) → e.len ≢ 0 → e.first + e.len < 4294967296
unfolding run_of
small-head e t h v = h (run_of e) (rw (read-run e t v) (inl refl))

wrap-small : (n : ℕ) → n < 4294967296 → wrap n ≡ n
unfolding wrap
wrap-small n h = mod-eq_of_lt h

head-cut : (k : ℕ) (e : Extent) (t : List Extent) → 1 ≤ k → k ≤ e.len → e.first + e.len < 4294967296 → read_runs (cut k e ∷ t) ≡ cut_front k (run_of e) ++ read_runs t
unfolding cut run_of cut_front
head-cut k e t h l s = go (lt? k e.len)
  where
    go : (k < e.len) ⊎ (e.len ≤ k) → read_runs (cut k e ∷ t) ≡ cut_front k (run_of e) ++ read_runs t
    go (inl m) =
        read-run (cut k e) t (λ z. let y : e.len - k ≡ 0 = z in omega arith)
        ∙ rw (lt-ltb k e.len m, wrap-small (e.first + k) (omega arith))
    go (inr m) = read-vacant (cut k e) t (omega arith) ∙ rw (le-ltb k e.len m)

pub carve-read : (k : ℕ) (t : List Extent) → 1 ≤ k → Small t → read_runs (carved_at (first_fit k t) k t) ≡ carve k (read_runs t)
unfolding first_fit holds place_of carved_at pick run_of read_runs
carve-read k [] h small = rw read_none
carve-read k (e ∷ t) h small = go (leb k e.len) refl (eq? e.len 0) (carve-read k t h (small-rest e t small))
  where
    go : (l : Bool) → leb k e.len ≡ l → (e.len ≡ 0) ⊎ (e.len ≢ 0) → read_runs (carved_at (place_of (holds k) t) k t) ≡ carve k (read_runs t)
        → read_runs (carved_at (pick l 0 (suc (place_of (holds k) t))) k (e ∷ t)) ≡ carve k (read_runs (e ∷ t))
    go true b (inl v) ih = absurd (omega (arith, leb-true k e.len b))
    go true b (inr v) ih = head-cut k e t h (leb-true k e.len b) (small-head e t small v) ∙ rw (read-run e t v, b)
    go false b (inl v) ih = read-vacant e (carved_at (place_of (holds k) t) k t) v ∙ ih ∙ rw (read-vacant e t v)
    go false b (inr v) ih = read-run e (carved_at (place_of (holds k) t) k t) v ∙ rw (read-run e t v, b, ih)

-- ---- pages released

len_cons : (q : Extent → Bool) (e : Extent) (t : List Extent) → len_of q (e ∷ t) ≡ pick (q e) e.len (len_of q t)
unfolding len_of place_of pick
len_cons q e t = go (q e)
  where
    go : (b : Bool) → (get_or (e ∷ t) (pick b 0 (suc (place_of q t))) vacant).len ≡ pick b e.len (len_of q t)
    go true = refl
    go false = refl

len_at_lem : (q : Extent → Bool) (key : Run → ℕ) (p : ℕ) (t : List Extent) → ((e : Extent) → q e ≡ pick (is_vacant e) false (eqb (key (run_of e)) p))
    → len_of q t ≡ len_at key p (read_runs t)
unfolding len_of place_of read_runs is_vacant vacant run_of pick
len_at_lem q key p [] h = refl
len_at_lem q key p (e ∷ t) h = len_cons q e t ∙ ap (λ (b : Bool). pick b e.len (len_of q t)) (h e) ∙ go (eqb e.len 0) (eqb (key (run_of e)) p) (len_at_lem q key p t h) refl
  where
    go : (v w : Bool) → len_of q t ≡ len_at key p (read_runs t)
        → eqb (key (run_of e)) p ≡ w → pick (pick v false w) e.len (len_of q t) ≡ len_at key p (pick v (read_runs t) (run_of e ∷ read_runs t))
    go true w ih b = ih
    go false true ih b = rw b
    go false false ih b = rw b ih

pub ends_read : (p : ℕ) (t : List Extent) → len_of (ends_before p) t ≡ ends_at p (read_runs t)
unfolding ends_before run_of
ends_read p t = len_at_lem (ends_before p) end p t (λ e. refl)

pub starts-read : (p : ℕ) (t : List Extent) → len_of (begins_at p) t ≡ starts_at p (read_runs t)
unfolding begins_at run_of
starts-read p t = len_at_lem (begins_at p) (λ r. r.start) p t (λ e. refl)

-- an entry that touches the pages becomes an empty place, another stays
module _ (p q : ℕ) (e : Extent) where
  apart-vacant : e.len ≡ 0 → apart p q e ≡ e
  unfolding apart ends_before begins_at is_vacant pick
  apart-vacant v = rw (eq-eqb e.len 0 v)

  apart_low : e.len ≢ 0 → eqb (e.first + e.len) p ≡ true → apart p q e ≡ vacant
  unfolding apart ends_before begins_at is_vacant pick
  apart_low v x = rw (ne_eqb e.len 0 v, x)

  apart-high : e.len ≢ 0 → eqb (e.first + e.len) p ≡ false → eqb e.first q ≡ true → apart p q e ≡ vacant
  unfolding apart ends_before begins_at is_vacant pick
  apart-high v x y = rw (ne_eqb e.len 0 v, x, y)

  apart_same : e.len ≢ 0 → eqb (e.first + e.len) p ≡ false → eqb e.first q ≡ false → apart p q e ≡ e
  unfolding apart ends_before begins_at is_vacant pick
  apart_same v x y = rw (ne_eqb e.len 0 v, x, y)

vacant-len : vacant.len ≡ 0
unfolding vacant
vacant-len = refl

-- entries that touch the pages leave the list
cleared-from : (p k : ℕ) (n : ℕ) (t : List Extent) → read_runs (remade (λ j e. apart p (p + k) e) n t) ≡ keep (clear_of p k) (read_runs t)
unfolding remade
cleared-from p k n [] = rw read_none
cleared-from p k n (e ∷ t) = go (eq? e.len 0) (eqb (e.first + e.len) p) refl (eqb e.first (p + k)) refl (remade (λ j e. apart p (p + k) e) (suc n) t) (cleared-from p k (suc n) t)
  where
    kept : e.len ≢ 0 → keep (clear_of p k) (read_runs (e ∷ t)) ≡ cond (clear_of p k (run_of e)) (run_of e ∷ keep (clear_of p k) (read_runs t)) (keep (clear_of p k) (read_runs t))
    kept v = rw (read-run e t v)

    test : (a b : Bool) → eqb (e.first + e.len) p ≡ a → eqb e.first (p + k) ≡ b → clear_of p k (run_of e) ≡ not a && not b
    test a b x y = unfold clear_of in unfold run_of in rw (x, y)

    go : (e.len ≡ 0) ⊎ (e.len ≢ 0) → (a : Bool) → eqb (e.first + e.len) p ≡ a → (b : Bool) → eqb e.first (p + k) ≡ b → (u : List Extent)
        → read_runs u ≡ keep (clear_of p k) (read_runs t)
        → read_runs (apart p (p + k) e ∷ u) ≡ keep (clear_of p k) (read_runs (e ∷ t))
    go (inl v) a x b y u ih = rw (apart-vacant p (p + k) e v, read-vacant e u v, read-vacant e t v) ih
    go (inr v) true x b y u ih = rw (apart_low p (p + k) e v x, read-vacant vacant u vacant-len, kept v, test true b x y) ih
    go (inr v) false x true y u ih = rw (apart-high p (p + k) e v x y, read-vacant vacant u vacant-len, kept v, test false true x y) ih
    go (inr v) false x false y u ih = rw (apart_same p (p + k) e v x y, read-run e u v, kept v, test false false x y, ih)

-- a new head
-- some place is empty
abbrev pub HasPlace : List Extent → Type 0
HasPlace t = (i : ℕ) × (i < length t) × ((get_or t i vacant).len ≡ 0)

pub push-read : (e : Extent) (t : List Extent) → e.len ≢ 0 → HasPlace t → read_runs (pushed is_vacant e t) ≡ run_of e ∷ read_runs t
unfolding pushed is_vacant
push-read e [] v h = absurd (omega (arith, h.1))
push-read e (x ∷ t) v h = read-run e (pick (is_vacant x) t (pushed is_vacant x t)) v ∙ ap (λ (rs : List Run). run_of e ∷ rs) (go (eq? x.len 0) h.0 h.1 h.2 (push-read x t))
  where
    go : (x.len ≡ 0) ⊎ (x.len ≢ 0) → (i : ℕ) → i < suc (length t) → (get_or (x ∷ t) i vacant).len ≡ 0
        → (x.len ≢ 0 → HasPlace t → read_runs (pushed is_vacant x t) ≡ run_of x ∷ read_runs t)
        → read_runs (pick (is_vacant x) t (pushed is_vacant x t)) ≡ read_runs (x ∷ t)
    go (inl w) i l z ih = unfold pick in rw (eq-eqb x.len 0 w, read-vacant x t w)
    go (inr w) zero l z ih = absurd (w z)
    go (inr w) (suc i) l z ih = unfold pick in rw (ne_eqb x.len 0 w, read-run x t w) (ih w (i, omega arith, z))

apart_empty : (p q : ℕ) (e : Extent) → e.len ≡ 0 → (apart p q e).len ≡ 0
apart_empty p q e v = rw (apart-vacant p q e v) v

place-left : (p q : ℕ) (t : List Extent) → HasPlace t → HasPlace (cleared p q t)
unfolding cleared
place-left p q t (i, l, z) =
    (i, rw (length-remade (λ j e. apart p q e) 0 t) l, rw (get_d_remade (λ j e. apart p q e) t i vacant l) (apart_empty p q (get_or t i vacant) z))

whole-len : (p k l r : ℕ) → l + k + r < 4294967296 → (whole p k l r).len ≡ l + k + r
unfolding whole
whole-len p k l r h = rw (wrap-small (l + k) (omega arith), wrap-small (l + k + r) h)

whole-first : (p k l r : ℕ) → (whole p k l r).first ≡ p - l
unfolding whole
whole-first p k l r = refl

-- the pages from p on are joined with what touches them, and the whole becomes the head
module _ (p k : ℕ) (t : List Extent) (some-k : 1 ≤ k) (place : HasPlace t) (low : ends_at p (read_runs t) ≤ p)
    (high : p + k + starts_at (p + k) (read_runs t) < 4294967296) where
  abbrev l : ℕ
  l = ends_at p (read_runs t)

  abbrev r : ℕ
  r = starts_at (p + k) (read_runs t)

  head-is : run_of (whole p k l r) ≡ joined p k (read_runs t)
  unfolding run_of joined
  head-is = λ i. record { start = whole-first p k l r i; len = whole-len p k l r (omega arith) i }

  pub release-read : read_runs (released p k t) ≡ join_runs p k (read_runs t)
  unfolding released join_runs
  release-read =
      rw (wrap-small (p + k) (omega arith), ends_read p t, starts-read (p + k) t)
      (push-read (whole p k l r) (cleared p (p + k) t) (λ z. let y : (whole p k l r).len ≡ l + k + r = whole-len p k l r (omega arith) in omega arith) (place-left p (p + k) t place)
      ∙ rw (head-is, cleared-all))
    where
      cleared-all : read_runs (cleared p (p + k) t) ≡ keep (clear_of p k) (read_runs t)
      cleared-all = unfold cleared in cleared-from p k 0 t
