-- The comparison of two pools page by page is the comparison of their tables.
use mathlib.Core.Path.{◌≡◌, refl, sym, ap, ◌∙◌, fun_ext}
use mathlib.Core.Logic.{◌⊎◌, inl, inr}
use mathlib.Core.Bool.{Bool, true}
use Prim.Native.Nat.{ℕ, zero, suc, ◌≤◌, ◌<◌}
use native.Mathlib.Omega.{arith}
use borrow.Author.Tests.{eqb-true, eq-eqb, leb-true, le-leb, lt-leb}
use Rattle.base.proofs.Cases.{lt?, never}
use Rattle.base.proofs.AllBelow.{◌&◌, pick_yes, pick_no, each_of, all_of_lem}
use Rattle.model.specs.State.{Page, slab, is_idle, marks_of}
use Rattle.model.proofs.Classes.{large-chunks}
use Rattle.maps.specs.Bitmap.{bits_of}
use Rattle.maps.proofs.Bits.{bits_injective}
use Rattle.rules.specs.Fields.{Fields, kind, class, run, map, page_of, page_at}
use Rattle.rules.specs.Agree.{Bounds}
use Rattle.rules.proofs.Pages.{inside-kind, taken-kind, page_in, page-kind, page-idle, idle_there}
use Rattle.rules.specs.Plain.{Shape}
use Rattle.mending.proofs.Only.{page-marks}
use Rattle.mending.specs.Checked.{same_record, same_page_at}

-- a class page has kind 2
slab-kind : (k c r : ℕ) (m : ℕ → Bool) (d : ℕ) (b : ℕ → Bool) → page_of k c r m ≡ slab d b → (k ≡ 2) × (c ≡ d) × ((i : ℕ) → m i ≡ b i)
slab-kind zero c r m d b e = absurd (never (cc))
slab-kind (suc zero) c r m d b e = absurd (never (cc))
slab-kind (suc (suc zero)) c r m d b e = (refl, cc, λ i. ap (λ (x : Page). marks_of x i) e)
slab-kind (suc (suc (suc zero))) c r m d b e = absurd (never (cc))
slab-kind (suc (suc (suc (suc zero)))) c r m d b e = absurd (never (cc))
slab-kind (suc (suc (suc (suc (suc k))))) c r m d b e = absurd (never (cc))

module _ (v u : Fields) (n : ℕ) (S : Shape v n) (T : Shape u n) (A : Bounds v n) (B : Bounds u n)
    (paged : (p i : ℕ) → class v p ≡ class u p → class v p < 3 → v.mark p i ≡ u.mark p i) where
  -- class pages of one class with the same map field
  same_marks : (p : ℕ) → p < n → kind v p ≡ 2 → kind u p ≡ 2 → class v p ≡ class u p → map v p ≡ map u p → v.mark p ≡ u.mark p
  same_marks p h k l c e = fun_ext (λ i. go i (lt? (class v p) 3))
    where
      P : class v p ≤ 8
      P = (S.kind2 p h k).in_range

      Q : class u p ≤ 8
      Q = (T.kind2 p h l).in_range

      recorded : (i : ℕ) → 3 ≤ class v p → (i < 64) ⊎ (64 ≤ i) → v.mark p i ≡ u.mark p i
      recorded i a (inl x) =
          let b : 3 ≤ class u p = omega arith in
          bits_injective (v.mark p) (u.mark p) 64
          (sym (A.maps p h k a P ((S.kind2 p h k).map-large a)) ∙ e ∙ B.maps p h l b Q ((T.kind2 p h l).map-large b)) i x
      recorded i a (inr x) =
          let b : 3 ≤ class u p = omega arith in
          A.marks p h k i (omega (arith, large-chunks (class v p) a)) ∙ sym (B.marks p h l i (omega (arith, large-chunks (class u p) b)))

      go : (i : ℕ) → (class v p < 3) ⊎ (3 ≤ class v p) → v.mark p i ≡ u.mark p i
      go i (inl a) = paged p i c a
      go i (inr a) = recorded i a (lt? i 64)

  pub same_page : (p : ℕ) → p < n → same_page_at v u p ≡ true → page_at v n p ≡ page_at u n p
  unfolding same_page_at same_record
  same_page p h e = go (lt? 1 (kind v p))
    where
      go : (1 < kind v p) ⊎ (kind v p ≤ 1) → page_at v n p ≡ page_at u n p
      go (inr a) =
          page-idle v n p h a
          ∙ sym (page-idle u n p h (leb-true _ _ (sym (pick_yes _ _ _ (le-leb (kind v p) 1 a)) ∙ e)))
      go (inl a) =
          let (x, (y, (z, (o, _)))) = each_of _ (sym (pick_no _ _ _ (lt-leb (kind v p) 1 a)) ∙ e) in
          let k : kind v p ≡ kind u p = eqb-true _ _ x in
          let c : class v p ≡ class u p = eqb-true _ _ y in
          let r : run v p ≡ run u p = eqb-true _ _ z in
          let m : map v p ≡ map u p = eqb-true _ _ o in
          page_in v n p h
          ∙ page-marks (kind v p) (class v p) (run v p) (v.mark p) (u.mark p) (λ d. same_marks p h d (sym k ∙ d) c m)
          ∙ (λ i. page_of (k i) (c i) (r i) (u.mark p))
          ∙ sym (page_in u n p h)

  -- the map field follows from class and marks
  same_map : (p : ℕ) → p < n → kind v p ≡ 2 → kind u p ≡ 2 → class v p ≡ class u p → ((i : ℕ) → v.mark p i ≡ u.mark p i) → map v p ≡ map u p
  same_map p h k l c e = go (lt? (class v p) 3)
    where
      go : (class v p < 3) ⊎ (3 ≤ class v p) → map v p ≡ map u p
      go (inl a) = (S.kind2 p h k).map-small a ∙ sym ((T.kind2 p h l).map-small (omega arith))
      go (inr a) =
          let b : 3 ≤ class u p = omega arith in
          A.maps p h k a (S.kind2 p h k).in_range ((S.kind2 p h k).map-large a)
          ∙ ap (λ (m : ℕ → Bool). bits_of m 64) (fun_ext e)
          ∙ sym (B.maps p h l b (T.kind2 p h l).in_range ((T.kind2 p h l).map-large b))

  pub page_same : (p : ℕ) → p < n → page_at v n p ≡ page_at u n p → same_page_at v u p ≡ true
  unfolding same_page_at same_record
  page_same p h e = go (kind v p) refl
    where
      other : page_of (kind u p) (class u p) (run u p) (u.mark p) ≡ page_at v n p
      other = sym (page_in u n p h) ∙ sym e

      fields : 1 < kind v p → kind v p ≡ kind u p → class v p ≡ class u p → run v p ≡ run u p → map v p ≡ map u p → same_page_at v u p ≡ true
      fields a k c r m = pick_no _ _ _ (lt-leb (kind v p) 1 a) ∙ all_of_lem _ (eq-eqb _ _ k & eq-eqb _ _ c & eq-eqb _ _ r & eq-eqb _ _ m & tt)

      free : kind v p ≤ 1 → same_page_at v u p ≡ true
      free a =
          let l = (idle_there u n p (ap is_idle (sym e ∙ page-idle v n p h a))).1 in
          pick_yes _ _ _ (le-leb (kind v p) 1 a) ∙ le-leb (kind u p) 1 l

      go : (k : ℕ) → kind v p ≡ k → same_page_at v u p ≡ true
      go zero k = free (omega arith)
      go (suc zero) k = free (omega arith)
      go (suc (suc zero)) k =
          let (l, c, m) = slab-kind (kind u p) (class u p) (run u p) (u.mark p) (class v p) (v.mark p) (other ∙ page-kind v n p 2 h k) in
          fields (omega arith) (k ∙ sym l) (sym c) ((S.kind2 p h k).no_run ∙ sym (T.kind2 p h l).no_run) (same_map p h k l (sym c) (λ i. sym (m i)))
      go (suc (suc (suc zero))) k =
          let (l, r) = taken-kind (class u p) (run u p) (u.mark p) (kind u p) (run v p) (other ∙ page-kind v n p 3 h k) in
          fields (omega arith) (k ∙ sym l) ((S.kind3 p h k).no-class ∙ sym (T.kind3 p h l).no-class) (sym r)
          ((S.kind3 p h k).no-map ∙ sym (T.kind3 p h l).no-map)
      go (suc (suc (suc (suc zero)))) k =
          let l = inside-kind (class u p) (run u p) (u.mark p) (kind u p) (other ∙ page-kind v n p 4 h k) in
          fields (omega arith) (k ∙ sym l) ((S.kind4 p h k).no-class ∙ sym (T.kind4 p h l).no-class)
          ((S.kind4 p h k).no_run ∙ sym (T.kind4 p h l).no_run) ((S.kind4 p h k).no-map ∙ sym (T.kind4 p h l).no-map)
      go (suc (suc (suc (suc (suc k))))) d = absurd (omega (arith, S.kinds p h))
