-- What is counted from pages and bytes is what the state shows.
use mathlib.Core.Path.{◌≡◌, refl, sym, ap, ◌∙◌}
use mathlib.Core.Logic.{◌⊎◌, inl, inr}
use mathlib.Core.Bool.{Bool, true, false, ◌&&◌, and-false}
use mathlib.Core.List.{List}
use Prim.Native.Nat.{ℕ, zero, suc, ◌+◌, ◌*◌, ◌≤◌, ◌<◌}
use native.Mathlib.Omega.{arith}
use lib.Dec.{eqb, leb, ltb}
use lib.ListN.{length, get_or}
use borrow.Author.Tests.{lt-ltb, le-ltb, ltb-true, eqb-true}
use Rattle.base.specs.Tests.{pick}
use Rattle.base.specs.Count.{sum, bit, count}
use Rattle.base.proofs.Cases.{clash, lt?, same_test}
use Rattle.base.proofs.Count.{sum_ext, sum-zero}
use Rattle.base.proofs.Search.{any_some, any_at}
use Rattle.model.specs.Classes.{chunks, own, counted, has_taken}
use Rattle.model.specs.State.{is_idle, marks_of}
use Rattle.model.specs.View.{is_class, kind_of, used_on, used_of, total_in as totalShown, shown}
use Rattle.plain.specs.Plain.{Plain, free_entry, entry_at, mark_of, page_of, page_at, list_of, no_counts, tally_of, read_plain}
use Rattle.plain.specs.Arrays.{remade}
use Rattle.plain.proofs.Loops.{get_d_remade, get_d_past, length-remade}
use Rattle.plain.proofs.Shown.{page_in, page-past}
use Rattle.plain_rules.specs.Counts.{free_page, of_class, in_hands, hands_on, used_on_page, used_in, class_page, total_in, free_in, class_recounted, recounted}

-- ---- chunks in callers' hands

hands_and : (c : ℕ) (m : ℕ → Bool) (i : ℕ) → in_hands c m i ≡ leb (own c) i && m i
unfolding in_hands pick
hands_and c m i = go (leb (own c) i)
  where
    go : (t : Bool) → pick t (m i) false ≡ t && m i
    go true = refl
    go false = refl

count-some : (q : ℕ → Bool) (n i : ℕ) → i < n → q i ≡ true → 1 ≤ count q n
unfolding count sum
count-some q zero i l e = absurd (omega arith)
count-some q (suc n) i l e = go (lt? i n) (λ h. count-some q n i h e)
  where
    go : (i < n) ⊎ (n ≤ i) → (i < n → 1 ≤ sum (λ j. bit (q j)) n) → 1 ≤ sum (λ j. bit (q j)) n + bit (q n)
    go (inl h) ih = omega (arith, ih h)
    go (inr h) ih = let d : n ≡ i = omega arith in rw (d, e) (omega arith)

some-counted : (q : ℕ → Bool) (n : ℕ) → 1 ≤ count q n → (i : ℕ) × (i < n) × (q i ≡ true)
unfolding count sum
some-counted q zero h = absurd (omega arith)
some-counted q (suc n) h = go (q n) refl (λ k. some-counted q n k)
  where
    go : (t : Bool) → q n ≡ t → (1 ≤ sum (λ j. bit (q j)) n → (i : ℕ) × (i < n) × (q i ≡ true)) → (i : ℕ) × (i < suc n) × (q i ≡ true)
    go true e ih = (n, omega arith, e)
    go false e ih =
        let z : 1 ≤ sum (λ j. bit (q j)) n + bit (q n) = h in
        let w : bit (q n) ≡ 0 = ap bit e in
        let (i, l, f) = ih (omega arith) in
        (i, omega arith, f)

-- a caller holds one exactly when some are held
pub hands_taken : (c : ℕ) (m : ℕ → Bool) → ltb 0 (hands_on c m) ≡ has_taken c m
unfolding hands_on has_taken
hands_taken c m = same_test _ _ there back
  where
    there : ltb 0 (count (in_hands c m) (chunks c)) ≡ true → has_taken c m ≡ true
    there e =
        let (i, l, f) = some-counted (in_hands c m) (chunks c) (ltb-true 0 (count (in_hands c m) (chunks c)) e) in
        any_at (λ j. leb (own c) j && m j) (chunks c) i l (sym (hands_and c m i) ∙ f)

    back : has_taken c m ≡ true → ltb 0 (count (in_hands c m) (chunks c)) ≡ true
    back e =
        let (i, l, f) = any_some (λ j. leb (own c) j && m j) (chunks c) e in
        lt-ltb 0 (count (in_hands c m) (chunks c)) (count-some (in_hands c m) (chunks c) i l (hands_and c m i ∙ f))

-- ---- pages

module _ (s : Plain) (b : List ℕ) where
  pub page-free : (p : ℕ) → free_page s.pages p ≡ is_idle (page_at s b p)
  unfolding free_page pick
  page-free p = go (lt? p 12)
    where
      kinds : (x y z : Bool) → eqb (entry_at s p).kind 0 ≡ x → eqb (entry_at s p).kind 1 ≡ y → eqb (entry_at s p).kind 2 ≡ z
          → eqb (entry_at s p).kind 0 ≡ is_idle (page_of (entry_at s p) (mark_of b p (entry_at s p).class))
      kinds true y z d e f = unfold page_of in rw d
      kinds false true z d e f = unfold page_of in rw (d, e)
      kinds false false true d e f = unfold page_of in rw (d, e, f)
      kinds false false false d e f = unfold page_of in rw (d, e, f)

      go : (p < 12) ⊎ (12 ≤ p) → pick (ltb p 12) (eqb (get_or s.pages p free_entry).kind 0) false ≡ is_idle (page_at s b p)
      go (inl h) = rw (lt-ltb p 12 h, page_in s b p h) (unfold entry_at in kinds _ _ _ refl refl refl)
      go (inr h) = rw (le-ltb p 12 h, page-past s b p h)

  class-is : (c p : ℕ) → p < 12 → class_page s.pages c p ≡ is_class c (kind_of (page_at s b p))
  unfolding class_page of_class pick
  class-is c p h = rw (page_in s b p h) (unfold entry_at in kinds _ _ _ refl refl refl)
    where
      kinds : (x y z : Bool) → eqb (entry_at s p).kind 0 ≡ x → eqb (entry_at s p).kind 1 ≡ y → eqb (entry_at s p).kind 2 ≡ z
          → pick (eqb (entry_at s p).kind 1) (eqb (entry_at s p).class c) false ≡ is_class c (kind_of (page_of (entry_at s p) (mark_of b p (entry_at s p).class)))
      kinds true y z d e f = unfold page_of in rw (eqb-true (entry_at s p).kind 0 d)
      kinds false true z d e f = unfold page_of in rw (d, e)
      kinds false false true d e f = unfold page_of in rw (d, e, f)
      kinds false false false d e f = unfold page_of in rw (d, e, f)

  -- ---- rule 6

  pub free-is : free_in s.pages ≡ count (λ p. is_idle (page_at s b p)) 12
  unfolding free_in count
  free-is = sum_ext _ _ 12 (λ p l. ap bit (page-free p))

  pub total-is : (c : ℕ) → total_in s.pages c ≡ (shown (read_plain s b)).total c
  unfolding total_in shown totalShown read_plain count
  total-is c = ap (λ (n : ℕ). n * counted c) (sum_ext _ _ 12 (λ p l. ap bit (class-is c p l)))

  used-page : (c p : ℕ) → p < 12 → used_on_page s.pages b c p ≡ used_on c (page_at s b p)
  used-page c p h = go (is_class c (kind_of (page_at s b p))) refl
    where
      off : is_class c (kind_of (page_at s b p)) ≡ false → used_on c (page_at s b p) ≡ 0
      off e = unfold count in sum-zero _ (chunks c) (λ i l. rw (e, and-false (leb (own c) i)))

      marks : is_class c (kind_of (page_at s b p)) ≡ true → (i : ℕ) → marks_of (page_at s b p) i ≡ mark_of b p c i
      marks e i = rw (page_in s b p h) (kinds _ _ _ refl refl refl (class-is c p h ∙ e))
        where
          kinds : (x y z : Bool) → eqb (entry_at s p).kind 0 ≡ x → eqb (entry_at s p).kind 1 ≡ y → eqb (entry_at s p).kind 2 ≡ z → class_page s.pages c p ≡ true
              → marks_of (page_of (entry_at s p) (mark_of b p (entry_at s p).class)) i ≡ mark_of b p c i
          kinds x true z d k f g = unfold page_of pick in rw (eqb-true (entry_at s p).kind 1 k) (ap (λ (d : ℕ). mark_of b p d i) (eqb-true (entry_at s p).class c same))
            where
              same : eqb (entry_at s p).class c ≡ true
              same = unfold entry_at in (unfold class_page of_class pick in rw k at g)
          kinds x false z d k f g = absurd (clash g (unfold class_page of_class entry_at pick in rw k))

      one : is_class c (kind_of (page_at s b p)) ≡ true → (i : ℕ) → bit (in_hands c (mark_of b p c) i) ≡ bit (leb (own c) i && (is_class c (kind_of (page_at s b p)) && marks_of (page_at s b p) i))
      one e i = rw (hands_and c (mark_of b p c) i, e, marks e i)

      go : (t : Bool) → is_class c (kind_of (page_at s b p)) ≡ t → used_on_page s.pages b c p ≡ used_on c (page_at s b p)
      go true e = unfold used_on_page pick in rw (class-is c p h ∙ e) (unfold hands_on count in sum_ext _ _ (chunks c) (λ i l. one e i))
      go false e = unfold used_on_page pick in rw (class-is c p h ∙ e) (sym (off e))

  pub used-is : (c : ℕ) → used_in s.pages b c ≡ used_of (read_plain s b) c
  unfolding used_in used_of read_plain
  used-is c = sum_ext _ _ 12 (used-page c)

-- ---- counts made afresh

-- the state shown is the same
pub recount_shown : (s : Plain) (b d : List ℕ) → read_plain (recounted s d) b ≡ read_plain s b
unfolding read_plain recounted page_at entry_at list_of
recount_shown s b d = λ i. record {
  size = 12;
  page = λ p. page_at s b p;
  runs = (read_plain s b).runs;
  lists = λ c. list_of s c;
  tally = λ c. tally-kept c i;
}
  where
    at_c : (c : ℕ) → (c < length s.counts) ⊎ (length s.counts ≤ c) → tally_of (get_or (recounted s d).counts c no_counts) ≡ tally_of (get_or s.counts c no_counts)
    at_c c (inl h) = unfold recounted tally_of in rw (get_d_remade (class_recounted s.pages d) s.counts c no_counts h) (unfold class_recounted in refl)
    at_c c (inr h) =
        unfold recounted in
        rw (get_d_past s.counts c no_counts h, get_d_past (remade (class_recounted s.pages d) 0 s.counts) c no_counts (rw (length-remade (class_recounted s.pages d) 0 s.counts) h))

    tally-kept : (c : ℕ) → tally_of (get_or (recounted s d).counts c no_counts) ≡ tally_of (get_or s.counts c no_counts)
    tally-kept c = at_c c (lt? c (length s.counts))

-- and its counts are those that it shows
module _ (s : Plain) (b : List ℕ) where
  pub recount_free : (recounted s b).free ≡ count (λ p. is_idle (page_at s b p)) 12
  unfolding recounted
  recount_free = free-is s b

  module _ (c : ℕ) (h : c < length s.counts) where
    recount_at : get_or (recounted s b).counts c no_counts ≡ class_recounted s.pages b c (get_or s.counts c no_counts)
    unfolding recounted
    recount_at = get_d_remade (class_recounted s.pages b) s.counts c no_counts h

    pub recount_used : (get_or (recounted s b).counts c no_counts).used ≡ used_of (read_plain s b) c
    recount_used = rw recount_at (unfold class_recounted in used-is s b c)

    pub recount_total : (get_or (recounted s b).counts c no_counts).total ≡ (shown (read_plain s b)).total c
    recount_total = rw recount_at (unfold class_recounted in total-is s b c)
