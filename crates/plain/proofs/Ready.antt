-- The list of pages with a free chunk: a new head, and a page that leaves.
use mathlib.Core.Path.{◌≡◌, refl, ap, ◌∙◌}
use mathlib.Core.Logic.{◌⊎◌, inl, inr, ◌≢◌}
use mathlib.Core.Bool.{Bool, true, false}
use mathlib.Core.List.{List, [], ◌∷◌}
use Prim.Native.Nat.{ℕ, zero, suc, ◌≤◌, ◌<◌}
use native.Mathlib.Omega.{arith}
use lib.Dec.{eqb, ltb}
use lib.ListN.{length, get_or}
use borrow.Author.Tests.{lt-ltb, le-ltb, le-leb, lt-leb, eq-eqb, ne_eqb, ltb-true}
use Rattle.base.specs.Tests.{pick}
use Rattle.base.specs.Count.{sum, count}
use Rattle.base.specs.Lists.{Mem, NoDup, keep}
use Rattle.base.specs.Links.{others}
use Rattle.base.proofs.Cases.{eq?, lt?}
use Rattle.base.proofs.Lists.{keep-mem}
use Rattle.base.proofs.Pigeonhole.{length-count}
use Rattle.plain.specs.Arrays.{remade, pushed}
use Rattle.plain.specs.Plain.{listed}
use Rattle.plain.specs.Chunks.{is_no_page, listed_first, unlisted}

listed-page : (x : ℕ) (t : List ℕ) → x < 12 → listed (x ∷ t) ≡ x ∷ listed t
unfolding listed
listed-page x t h = rw (lt-ltb x 12 h)

listed_gap : (x : ℕ) (t : List ℕ) → 12 ≤ x → listed (x ∷ t) ≡ listed t
unfolding listed
listed_gap x t h = rw (le-ltb x 12 h)

listed-none : listed [] ≡ []
unfolding listed
listed-none = refl

-- ---- a page leaves

unlisted-from : (p n : ℕ) (t : List ℕ) → listed (remade (λ j x. pick (eqb x p) 255 x) n t) ≡ keep (others p) (listed t)
unfolding remade
unlisted-from p n [] = rw listed-none
unlisted-from p n (x ∷ t) = go (eq? x p) (lt? x 12) (remade (λ j x. pick (eqb x p) 255 x) (suc n) t) (unlisted-from p (suc n) t)
  where
    out : x ≡ p → pick (eqb x p) 255 x ≡ 255
    out e = unfold pick in rw (eq-eqb x p e)

    stay : x ≢ p → pick (eqb x p) 255 x ≡ x
    stay d = unfold pick in rw (ne_eqb x p d)

    test_in : x ≡ p → others p x ≡ false
    test_in e = unfold others in rw (eq-eqb x p e)

    test_out : x ≢ p → others p x ≡ true
    test_out d = unfold others in rw (ne_eqb x p d)

    go : (x ≡ p) ⊎ (x ≢ p) → (x < 12) ⊎ (12 ≤ x) → (u : List ℕ) → listed u ≡ keep (others p) (listed t) → listed (pick (eqb x p) 255 x ∷ u) ≡ keep (others p) (listed (x ∷ t))
    go (inl e) (inl h) u ih = rw (out e, listed_gap 255 u (omega arith), listed-page x t h, test_in e) ih
    go (inl e) (inr h) u ih = rw (out e, listed_gap 255 u (omega arith), listed_gap x t h) ih
    go (inr d) (inl h) u ih = rw (stay d, listed-page x u h, listed-page x t h, test_out d, ih)
    go (inr d) (inr h) u ih = rw (stay d, listed_gap x u h, listed_gap x t h) ih

pub unlisted-read : (p : ℕ) (t : List ℕ) → listed (unlisted p t) ≡ keep (others p) (listed t)
unfolding unlisted
unlisted-read p t = unlisted-from p 0 t

-- ---- a new head

abbrev pub HasGap : List ℕ → Type 0
HasGap t = (i : ℕ) × (i < length t) × (12 ≤ get_or t i 255)

head-from : (p : ℕ) (t : List ℕ) → p < 12 → HasGap t → listed (pushed is_no_page p t) ≡ p ∷ listed t
unfolding pushed is_no_page
head-from p [] v h = absurd (omega (arith, h.1))
head-from p (x ∷ t) v h = listed-page p (pick (is_no_page x) t (pushed is_no_page x t)) v ∙ ap (λ (l : List ℕ). p ∷ l) (go (lt? x 12) h.0 h.1 h.2 (head-from x t))
  where
    go : (x < 12) ⊎ (12 ≤ x) → (i : ℕ) → i < suc (length t) → 12 ≤ get_or (x ∷ t) i 255 → (x < 12 → HasGap t → listed (pushed is_no_page x t) ≡ x ∷ listed t)
        → listed (pick (is_no_page x) t (pushed is_no_page x t)) ≡ listed (x ∷ t)
    go (inr w) i l z ih = unfold pick in rw (le-leb 12 x w, listed_gap x t w)
    go (inl w) zero l z ih = absurd (omega arith)
    go (inl w) (suc i) l z ih = unfold pick in rw (lt-leb 12 x w, listed-page x t w) (ih w (i, omega arith, z))

pub listed_first_lem : (p : ℕ) (t : List ℕ) → p < 12 → HasGap t → listed (listed_first p t) ≡ p ∷ listed t
unfolding listed_first
listed_first_lem p t v h = head-from p t v h

-- ---- an empty place

gap? : (t : List ℕ) → HasGap t ⊎ (length (listed t) ≡ length t)
gap? [] = inr (rw listed-none)
gap? (x ∷ t) = go (lt? x 12) (gap? t)
  where
    go : (x < 12) ⊎ (12 ≤ x) → HasGap t ⊎ (length (listed t) ≡ length t) → HasGap (x ∷ t) ⊎ (length (listed (x ∷ t)) ≡ suc (length t))
    go (inr v) ih = inl (0, omega arith, v)
    go (inl v) (inl (i, l, z)) = inl (suc i, omega arith, z)
    go (inl v) (inr n) = inr (rw (listed-page x t v) (ap suc n))

-- a page that is not listed leaves one of 12 places empty
pub has_gap : (t : List ℕ) → length t ≡ 12 → NoDup (listed t) → (p : ℕ) → p < 12 → ¬ Mem p (listed t) → HasGap t
has_gap t l once p h new = go (gap? t)
  where
    all : ℕ → Bool
    all j = true

    below : (q : ℕ) → Mem q (p ∷ listed t) → (q < 12) × (all q ≡ true)
    below q (inl e) = (omega arith, refl)
    below q (inr m) = (ltb-true q 12 (keep-mem (λ j. ltb j 12) q t (unfold listed in m)).1, refl)

    full : count all 12 ≡ 12
    full = unfold count in unfold sum in refl

    go : HasGap t ⊎ (length (listed t) ≡ length t) → HasGap t
    go (inl y) = y
    go (inr n) = absurd (omega (arith, length-count all 12 (p ∷ listed t) (new, once) below, full, n))
