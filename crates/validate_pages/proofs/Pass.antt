-- The counters after one page more.
use Rattle.std.proofs.Common.{◌≡◌, ℕ, zero, suc, ◌+◌, ◌*◌, ◌^◌, ◌<◌, ◌≤◌, Bool, true, false, not, eqb, ltb, ◌≢◌, ◌⊎◌, List, length, get_or, sym, refl, ap, ◌∙◌, inl, inr, suc-mul, add-one, arith, length-set, get_or-set_other, get_or-set_same, eq-eqb, ne_eqb, leb-true}
use mathlib.Core.Bool.{false≢true}
use Rattle.base.specs.Tests.{pick, all_of, all_below}
use Rattle.base.specs.Count.{bit, sum, count}
use Rattle.base.proofs.Cases.{eq?}
use Rattle.base.proofs.Tests.{both_true}
use Rattle.words.specs.Word.{Bytes, word}
use Rattle.records.specs.Layout.{map_place}
use Rattle.records.specs.declared.Links.{Links}
use Rattle.model.specs.Classes.{chunks, own}
use Rattle.model.specs.State.{Page, is_idle}
use Rattle.model.specs.View.{kind_of, is_class, used_on}
use Rattle.classes.proofs.Numbers.{chunks_512}
use Rattle.map_count.proofs.Counts.{count_le}
use Rattle.rules.specs.Fields.{Fields, kind, class, page_at}
use Rattle.rules.specs.Read.{is_head, open_at}
use Rattle.rules.specs.Rules.{map_fits, class_with, class_page, shape_at, in_use, full_alone}
use Rattle.rules.specs.Bytes.{pages_in, image_of, fields_of}
use Rattle.validate_pages.specs.Mirror.{class_share, free_share, fault_share, share, Counted, ones_at, class_weight, class_fault, add_at, class_added, kind_added, page_added}
use Rattle.validate_pages.proofs.Shares.{ones_marks, page-is, plain-share, slab-share}

-- ---- sums

pub sum_le : (h : ℕ → ℕ) (n b : ℕ) → ((j : ℕ) → h j ≤ b) → sum h n ≤ n * b
unfolding sum
sum_le h zero b e = omega arith
sum_le h (suc n) b e = let ih = sum_le h n b e in let z : suc n * b ≡ n * b + b = suc-mul n b in omega (arith, e n)

bit_le : (b : Bool) → bit b ≤ 1
bit_le true = omega arith
bit_le false = omega arith

pub used_le : (j : ℕ) (x : Page) → used_on j x ≤ chunks j
used_le j x = count_le _ (chunks j)

pub share_le : (v : Fields) (n j p : ℕ) → share v n j p ≤ 281479271678464
unfolding share class_share free_share fault_share pick
share_le v n j p = go (ltb j 9) (eqb j 9)
  where
    go : (a b : Bool) → pick a (class_share v n j p) (pick b (free_share v n p) (fault_share v n p)) ≤ 281479271678464
    go true b = omega (arith, used_le j (page_at v n p), chunks_512 j, bit_le (is_class j (kind_of (page_at v n p))), bit_le (open_at v n j p))
    go false true = omega (arith, bit_le (is_idle (page_at v n p)), bit_le (is_head v n p))
    go false false = omega (arith, bit_le (not (in_use (page_at v n p))), bit_le (not (full_alone v n p)))

-- ---- one addition

module _ (t : List ℕ) (j x : ℕ) where
  pub length-add_at : length (add_at t j x) ≡ length t
  unfolding add_at
  length-add_at = length-set t j _

  add_at_same : j < length t → get_or t j 0 + x < 2 ^ 64 → get_or (add_at t j x) j 0 ≡ get_or t j 0 + x
  unfolding add_at
  add_at_same l h = get_or-set_same t j _ 0 l ∙ omega arith

  add_at_other : (i : ℕ) → i ≢ j → get_or (add_at t j x) i 0 ≡ get_or t i 0
  unfolding add_at
  add_at_other i d = get_or-set_other t j i _ 0 d

-- one addition where the shares of the other counters are 0
one_added : (t : List ℕ) (a x : ℕ) (h : ℕ → ℕ) → length t ≡ 11 → a < 11 → ((j : ℕ) → j < 11 → get_or t j 0 + h j < 2 ^ 64) → ((j : ℕ) → h j ≡ pick (eqb j a) x 0)
    → (j : ℕ) → j < 11 → get_or (add_at t a x) j 0 ≡ get_or t j 0 + h j
unfolding pick
one_added t a x h len la small e j l = go (eq? j a)
  where
    go : (j ≡ a) ⊎ (j ≢ a) → get_or (add_at t a x) j 0 ≡ get_or t j 0 + h j
    go (inl q) =
        let z : h j ≡ x = e j ∙ rw (eq-eqb j a q) in
        let y : h a ≡ x = e a ∙ rw (eq-eqb a a refl) in
        rw (z, q) (add_at_same t a x (omega arith) (rw y at (small a la)))
    go (inr q) = let z : h j ≡ 0 = e j ∙ rw (ne_eqb j a q) in rw (add_at_other t a x j q, z) (omega arith)

module _ (t : List ℕ) (c x y : ℕ) (h : ℕ → ℕ) (len : length t ≡ 11) (lc : c ≤ 8) (small : (j : ℕ) → j < 11 → get_or t j 0 + h j < 2 ^ 64)
    (e : (j : ℕ) → j < 11 → h j ≡ pick (eqb j c) x (pick (eqb j 10) y 0)) where
  two_added : (j : ℕ) → j < 11 → get_or (add_at (add_at t c x) 10 y) j 0 ≡ get_or t j 0 + h j
  unfolding pick
  two_added j l = go (eq? j c) (eq? j 10)
    where
      at_c : h c ≡ x
      at_c = e c (omega arith) ∙ rw (eq-eqb c c refl)

      at_10 : h 10 ≡ y
      at_10 = e 10 (omega arith) ∙ rw (ne_eqb 10 c (λ z. omega arith))

      go : (j ≡ c) ⊎ (j ≢ c) → (j ≡ 10) ⊎ (j ≢ 10) → get_or (add_at (add_at t c x) 10 y) j 0 ≡ get_or t j 0 + h j
      go (inl q) r =
          rw (q, add_at_other (add_at t c x) 10 y c (λ z. omega arith), at_c)
          (add_at_same t c x (omega arith) (rw at_c at (small c (omega arith))))
      go (inr q) (inl r) =
          let b : get_or (add_at t c x) 10 0 ≡ get_or t 10 0 = add_at_other t c x 10 (λ z. omega arith) in
          let s : get_or t 10 0 + y < 2 ^ 64 = rw at_10 at (small 10 (omega arith)) in
          rw (r, at_10) (add_at_same (add_at t c x) 10 y (omega (arith, length-add_at t c x)) (rw b s) ∙ ap (λ (z : ℕ). z + y) b)
      go (inr q) (inr r) =
          let z : h j ≡ 0 = e j l ∙ rw (ne_eqb j c q, ne_eqb j 10 r) in
          rw (add_at_other (add_at t c x) 10 y j r, add_at_other t c x j q, z) (omega arith)

-- ---- one page

-- the shape of a class page
pub record Slab (w : ℕ) (s : List ℕ) (p : ℕ) : Type 0 where
  pub in_range : class (fields_of w s) p ≤ 8
  pub own-set : all_below ((fields_of w s).mark p) (own (class (fields_of w s) p)) ≡ true
  pub fits : map_fits (word s (map_place w p)) (class (fields_of w s) p) ≡ true

pub slab_of : (w : ℕ) (s : List ℕ) (p : ℕ) → class_page (fields_of w s) p ≡ true → Slab w s p
unfolding class_page class_with all_of fields_of image_of
slab_of w s p e =
    let a = both_true _ _ e in
    let b = both_true _ _ a.1 in
    let c = both_true _ _ b.1 in
    let d = both_true _ _ c.1 in
    record { in_range = leb-true _ _ a.0; own-set = c.0; fits = d.0 }

-- the shape of a page of kind k
pub kind_of_lem : (w : ℕ) (s : List ℕ) (n p k : ℕ) → shape_at (fields_of w s) n p ≡ true → kind (fields_of w s) p ≡ k → (k ≤ 4) × (k ≡ 2 → Slab w s p)
unfolding shape_at
kind_of_lem w s n p zero e d = (omega arith, λ z. absurd (omega arith))
kind_of_lem w s n p (suc zero) e d = (omega arith, λ z. absurd (omega arith))
kind_of_lem w s n p (suc (suc zero)) e d = (omega arith, λ z. slab_of w s p (rw d at e))
kind_of_lem w s n p (suc (suc (suc zero))) e d = (omega arith, λ z. absurd (omega arith))
kind_of_lem w s n p (suc (suc (suc (suc zero)))) e d = (omega arith, λ z. absurd (omega arith))
kind_of_lem w s n p (suc (suc (suc (suc (suc k))))) e d = absurd (false≢true (rw d at e))

module _ (w : ℕ) (s : List ℕ) (n p : ℕ) (B : Bytes s) (pages : n ≡ pages_in w s) (h : p < n) (ok : shape_at (fields_of w s) n p ≡ true) where
  -- the set marks of a class page, counted by its words, are those that the rules speak of
  pub slab_ones : Slab w s p → ones_at w s p (class (fields_of w s) p) ≡ count ((fields_of w s).mark p) (chunks (class (fields_of w s) p))
  unfolding fields_of image_of
  slab_ones S = ones_marks w s p (class (fields_of w s) p) B (rw (← pages) h) S.fits

  module _ (t : List ℕ) (len : length t ≡ 11) (small : (j : ℕ) → j < 11 → get_or t j 0 + share (fields_of w s) n j p < 2 ^ 64) where
    page_added_lem : (j : ℕ) → j < 11 → get_or (page_added w s t p ((fields_of w s).image.links p)) j 0 ≡ get_or t j 0 + share (fields_of w s) n j p
    unfolding page_added class_added pick
    page_added_lem j l = go (kind v p) refl (kind_of_lem w s n p (kind v p) ok refl)
      where
        v : Fields
        v = fields_of w s

        same : (b : Bool) → get_or t j 0 ≡ get_or t j 0 + pick b 0 0
        same true = omega arith
        same false = omega arith

        go : (k : ℕ) → kind v p ≡ k → (k ≤ 4) × (k ≡ 2 → Slab w s p) → get_or (page_added w s t p (v.image.links p)) j 0 ≡ get_or t j 0 + share v n j p
        go zero d K =
            rw d
            (one_added t 9 1 (λ i. share v n i p) len (omega arith) small (plain-share v n p h _ (page-is v n p h 0 d) (λ i. refl) refl 0 d refl) j l)
        go (suc zero) d K =
            rw d
            (one_added t 9 4294967297 (λ i. share v n i p) len (omega arith) small
            (plain-share v n p h _ (page-is v n p h 1 d) (λ i. refl) refl 1 d refl) j l)
        go (suc (suc zero)) d K =
            let S : Slab w s p = K.1 refl in
            rw d
            (two_added t (class v p) _ _ (λ i. share v n i p) len S.in_range small
            (slab-share v n p h (class v p) (v.mark p) (ones_at w s p (class v p)) d refl (page-is v n p h 2 d) S.in_range S.own-set (slab_ones S)) j l)
        go (suc (suc (suc zero))) d K =
            let e = plain-share v n p h _ (page-is v n p h 3 d) (λ i. refl) refl 3 d refl j in
            rw (d, e) (same (eqb j 9))
        go (suc (suc (suc (suc zero)))) d K =
            let e = plain-share v n p h _ (page-is v n p h 4 d) (λ i. refl) refl 4 d refl j in
            rw (d, e) (same (eqb j 9))
        go (suc (suc (suc (suc (suc k))))) d K = absurd (omega arith)

length-page_added : (w : ℕ) (s t : List ℕ) (p : ℕ) (l : Links) → length (page_added w s t p l) ≡ length t
unfolding page_added class_added
length-page_added w s t p l = go l.kind
  where
    go : (k : ℕ) → length (kind_added k t (add_at t 9 1) (add_at t 9 4294967297)
        (add_at (add_at t l.class (class_weight l.class (ones_at w s p l.class))) 10 (class_fault l.class (ones_at w s p l.class) l))) ≡ length t
    go zero = length-add_at t 9 1
    go (suc zero) = length-add_at t 9 4294967297
    go (suc (suc zero)) = length-add_at _ 10 _ ∙ length-add_at t _ _
    go (suc (suc (suc k))) = refl

-- ---- the loop: the counters of the first p pages, and after one page more

pub record Passed (v : Fields) (n p : ℕ) (t : List ℕ) : Type 0 where
  pub len : length t ≡ 11
  pub counted : Counted v n p t

pub pass_none : (v : Fields) (n : ℕ) (t : List ℕ) → length t ≡ 11 → ((j : ℕ) → get_or t j 0 ≡ 0) → Passed v n 0 t
unfolding sum
pass_none v n t e z = record { len = e; counted = λ j l. z j }

module _ (w : ℕ) (s : List ℕ) (n p : ℕ) (B : Bytes s) (pages : n ≡ pages_in w s) (most : n ≤ 4096) (h : p < n) (u : Bool) (fits : u ≡ shape_at (fields_of w s) n p) (on : u ≡ true) where
  pub pass_more : (t t' : List ℕ) (l : Links) → Passed (fields_of w s) n p t → l ≡ (fields_of w s).image.links p → t' ≡ page_added w s t p l → Passed (fields_of w s) n (p + 1) t'
  unfolding sum
  pass_more t t' l K e d = record {
    len = rw d (length-page_added w s t p l ∙ K.len);
    counted = λ j b.
        rw (d, e, add-one p)
        (page_added_lem w s n p B pages h (sym fits ∙ on) t K.len small j b ∙ ap (λ (x : ℕ). x + share (fields_of w s) n j p) (K.counted j b));
  }
    where
      small : (j : ℕ) → j < 11 → get_or t j 0 + share (fields_of w s) n j p < 2 ^ 64
      small j b =
          omega (arith, K.counted j b, share_le (fields_of w s) n j p, sum_le (share (fields_of w s) n j) p 281479271678464 (share_le (fields_of w s) n j))

pub pass_done : (v : Fields) (n p : ℕ) (t : List ℕ) → Passed v n p t → p ≤ n → n ≤ p → Counted v n n t
pass_done v n p t K h l = let e : n ≡ p = omega arith in λ j b. K.counted j b ∙ rw e
