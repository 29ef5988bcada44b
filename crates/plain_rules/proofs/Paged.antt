-- Rules 2 and 5: the tests of the pages hold exactly when the pages that are shown are a table.
use mathlib.Core.Path.{◌≡◌, refl, sym, ap, ◌∙◌}
use mathlib.Core.Logic.{◌⊎◌, inl, inr, ◌≢◌}
use mathlib.Core.Bool.{Bool, true, false}
use mathlib.Core.List.{List}
use Prim.Native.Nat.{ℕ, ◌+◌, ◌-◌, ◌≤◌, ◌<◌}
use native.Mathlib.Omega.{arith}
use lib.Dec.{eqb, leb, ltb}
use lib.ListN.{get_or}
use borrow.Author.Tests.{lt-ltb, le-leb, eq-eqb, ne_eqb, leb-true, ltb-true, eqb-true, eqb-false}
use Rattle.base.specs.Tests.{pick, all_below}
use Rattle.base.proofs.Tests.{both_true, not_and_true}
use Rattle.base.proofs.AllBelow.{pick-both, all-at, at_all}
use Rattle.base.proofs.Cases.{never, clash, lt?, eq?}
use Rattle.base.proofs.Search.{any_some, any_at}
use Rattle.model.specs.Classes.{own}
use Rattle.model.specs.State.{Page, idle, slab, taken, inside, edge}
use Rattle.model.specs.WellFormed.{ClassOk, PageOk, TableOk}
use Rattle.model.proofs.Table.{slab_ok, taken_ok}
use Rattle.plain.specs.declared.PageEntry.{PageEntry}
use Rattle.plain.specs.Plain.{Plain, Shaped, free_entry, entry_at, mark_of, page_of, page_at}
use Rattle.plain.proofs.Loops.{get_d_past}
use Rattle.plain.proofs.Shown.{page_in, page-past}
use Rattle.plain.proofs.Bytes.{mark-past}
use Rattle.plain_rules.specs.Counts.{hands_on}
use Rattle.plain_rules.proofs.Counted.{hands_taken}
use Rattle.plain_rules.specs.Rules.{class_ok, is_inside, run_ok, run_reaches, inside_ok, kind_ok}

-- ---- by kinds

module _ (t : List PageEntry) (b : List ℕ) (p : ℕ) (e : PageEntry) where
  ok_free : e.kind ≡ 0 → kind_ok t b p e ≡ true
  unfolding kind_ok pick
  ok_free k = rw k

  ok_class : e.kind ≡ 1 → kind_ok t b p e ≡ class_ok b p e.class
  unfolding kind_ok pick
  ok_class k = rw k

  ok_taken : e.kind ≡ 2 → kind_ok t b p e ≡ run_ok t p e.run
  unfolding kind_ok pick
  ok_taken k = rw k

  ok_inside : e.kind ≡ 3 → kind_ok t b p e ≡ inside_ok t p
  unfolding kind_ok pick
  ok_inside k = rw k

  ok_none : 4 ≤ e.kind → kind_ok t b p e ≡ false
  unfolding kind_ok pick
  ok_none h = rw (ne_eqb e.kind 0 (omega arith), ne_eqb e.kind 1 (omega arith), ne_eqb e.kind 2 (omega arith), ne_eqb e.kind 3 (omega arith))

reaches_there : (p q : ℕ) (e : PageEntry) → run_reaches p q e ≡ true → (e.kind ≡ 2) × (p < q + e.run)
unfolding run_reaches
reaches_there p q e h = let x = both_true (eqb e.kind 2) (ltb p (q + e.run)) h in (eqb-true e.kind 2 x.0, ltb-true p (q + e.run) x.1)

-- what a page shows
pub data Kinds (e : PageEntry) (m : ℕ → Bool) (x : Page) : Type 0 where
  is_free : e.kind ≡ 0 → x ≡ idle → Kinds e m x
  is_class : e.kind ≡ 1 → x ≡ slab e.class m → Kinds e m x
  is-taken : e.kind ≡ 2 → x ≡ taken e.run → Kinds e m x
  is_other : 3 ≤ e.kind → x ≡ inside → Kinds e m x

pub kind_of_lem : (s : Plain) (b : List ℕ) (p : ℕ) → p < 12 → Kinds (entry_at s p) (mark_of b p (entry_at s p).class) (page_at s b p)
unfolding page_of pick
kind_of_lem s b p h = go (eq? (entry_at s p).kind 0) (eq? (entry_at s p).kind 1) (eq? (entry_at s p).kind 2)
  where
    e : PageEntry
    e = entry_at s p

    go : (e.kind ≡ 0) ⊎ (e.kind ≢ 0) → (e.kind ≡ 1) ⊎ (e.kind ≢ 1) → (e.kind ≡ 2) ⊎ (e.kind ≢ 2) → Kinds e (mark_of b p e.class) (page_at s b p)
    go (inl k) y z = is_free k (page_in s b p h ∙ rw k)
    go (inr x) (inl k) z = is_class k (page_in s b p h ∙ rw k)
    go (inr x) (inr y) (inl k) = is-taken k (page_in s b p h ∙ rw k)
    go (inr x) (inr y) (inr z) = is_other (omega arith) (page_in s b p h ∙ rw (ne_eqb e.kind 0 x, ne_eqb e.kind 1 y, ne_eqb e.kind 2 z))

-- ---- a class page

class_there : (b : List ℕ) (p c : ℕ) → class_ok b p c ≡ true → ClassOk c (mark_of b p c)
unfolding class_ok
class_there b p c h =
    let x = both_true (leb c 8) (pick (all_below (mark_of b p c) (own c)) (ltb 0 (hands_on c (mark_of b p c))) false) h in
    let y = both_true (all_below (mark_of b p c) (own c)) (ltb 0 (hands_on c (mark_of b p c))) x.1 in
    record {
      in_range = leb-true c 8 x.0;
      own-set = all-at (mark_of b p c) (own c) y.0;
      past_clear = mark-past b p c;
      in_use = sym (hands_taken c (mark_of b p c)) ∙ y.1;
    }

class_back : (b : List ℕ) (p c : ℕ) → ClassOk c (mark_of b p c) → class_ok b p c ≡ true
unfolding class_ok
class_back b p c h =
    pick-both _ _ (le-leb c 8 h.in_range)
    (pick-both _ _ (at_all (mark_of b p c) (own c) h.own-set) (hands_taken c (mark_of b p c) ∙ h.in_use))

module _ (s : Plain) (b : List ℕ) (sh : Shaped s b) where
  -- a page of kind 3 is one of the pages
  inside_in : (j : ℕ) → is_inside s.pages j ≡ true → (j < 12) × ((entry_at s j).kind ≡ 3)
  unfolding is_inside
  inside_in j h = go (lt? j 12)
    where
      k : (entry_at s j).kind ≡ 3
      k = unfold entry_at in eqb-true (get_or s.pages j free_entry).kind 3 h

      past : 12 ≤ j → (entry_at s j).kind ≡ 0
      past l = unfold entry_at in rw (get_d_past s.pages j free_entry (omega (arith, sh.pages))) (unfold free_entry in refl)

      go : (j < 12) ⊎ (12 ≤ j) → (j < 12) × ((entry_at s j).kind ≡ 3)
      go (inl l) = (l, k)
      go (inr l) = absurd (omega (arith, k, past l))

  inside-shown : (j : ℕ) → j < 12 → (entry_at s j).kind ≡ 3 → page_at s b j ≡ inside
  inside-shown j l k = go (kind_of_lem s b j l)
    where
      go : Kinds (entry_at s j) (mark_of b j (entry_at s j).class) (page_at s b j) → page_at s b j ≡ inside
      go (is_free d e) = absurd (omega arith)
      go (is_class d e) = absurd (omega arith)
      go (is-taken d e) = absurd (omega arith)
      go (is_other d e) = e

  -- a page that shows something is one of the pages
  below : (p : ℕ) → page_at s b p ≢ edge → p < 12
  below p n = go (lt? p 12)
    where
      go : (p < 12) ⊎ (12 ≤ p) → p < 12
      go (inl l) = l
      go (inr l) = absurd (n (page-past s b p l))

  taken-from : (p n : ℕ) → page_at s b p ≡ taken n → (p < 12) × ((entry_at s p).kind ≡ 2) × ((entry_at s p).run ≡ n)
  taken-from p n h = let l = below p (λ z. never (cc)) in go l (kind_of_lem s b p l)
    where
      go : p < 12 → Kinds (entry_at s p) (mark_of b p (entry_at s p).class) (page_at s b p) → (p < 12) × ((entry_at s p).kind ≡ 2) × ((entry_at s p).run ≡ n)
      go l (is_free d e) = absurd (never (cc))
      go l (is_class d e) = absurd (never (cc))
      go l (is-taken d e) = (l, d, cc)
      go l (is_other d e) = absurd (never (cc))

  inside-from : (p : ℕ) → page_at s b p ≡ inside → (p < 12) × (3 ≤ (entry_at s p).kind)
  inside-from p h = let l = below p (λ z. never (cc)) in go l (kind_of_lem s b p l)
    where
      go : p < 12 → Kinds (entry_at s p) (mark_of b p (entry_at s p).class) (page_at s b p) → (p < 12) × (3 ≤ (entry_at s p).kind)
      go l (is_free d e) = absurd (never (cc))
      go l (is_class d e) = absurd (never (cc))
      go l (is-taken d e) = absurd (never (cc))
      go l (is_other d e) = (l, d)

  -- ---- a taken run

  run_there : (p n : ℕ) → run_ok s.pages p n ≡ true → (1 ≤ n) × ((j : ℕ) → p < j → j < p + n → page_at s b j ≡ inside)
  unfolding run_ok
  run_there p n h =
      let x = not_and_true (eqb n 0) (all_below (λ i. is_inside s.pages (p + 1 + i)) (n - 1)) h in
      let some : n ≢ 0 = eqb-false n 0 x.0 in
      (omega arith, λ j l u. at j (inside_in j (place j l u x.1)))
    where
      place : (j : ℕ) → p < j → j < p + n → all_below (λ i. is_inside s.pages (p + 1 + i)) (n - 1) ≡ true → is_inside s.pages j ≡ true
      place j l u a =
          let d : p + 1 + (j - p - 1) ≡ j = omega arith in
          ap (is_inside s.pages) (sym d) ∙ all-at (λ i. is_inside s.pages (p + 1 + i)) (n - 1) a (j - p - 1) (omega arith)

      at : (j : ℕ) → (j < 12) × ((entry_at s j).kind ≡ 3) → page_at s b j ≡ inside
      at j (l, k) = inside-shown j l k

  -- ---- all pages

  pub table_there : ((p : ℕ) → p < 12 → kind_ok s.pages b p (entry_at s p) ≡ true) → TableOk 12 (page_at s b)
  table_there ok = record {
    each = λ p. each p (lt? p 12);
    past = λ p l. page-past s b p l;
    ends = λ p e. ends p e (lt? p 12);
    inner = λ p n j e l u. inner p n j e l u (taken-from p n e);
    owner = λ j e. owner j (inside-from j e);
  }
    where
      page : (p : ℕ) → p < 12 → Kinds (entry_at s p) (mark_of b p (entry_at s p).class) (page_at s b p) → PageOk (page_at s b p)
      page p l (is_free k e) = rw e tt
      page p l (is_class k e) = rw e (class_there b p (entry_at s p).class (sym (ok_class s.pages b p (entry_at s p) k) ∙ ok p l))
      page p l (is-taken k e) = rw e (run_there p (entry_at s p).run (sym (ok_taken s.pages b p (entry_at s p) k) ∙ ok p l)).0
      page p l (is_other k e) = rw e tt

      each : (p : ℕ) → (p < 12) ⊎ (12 ≤ p) → PageOk (page_at s b p)
      each p (inl l) = page p l (kind_of_lem s b p l)
      each p (inr l) = rw (page-past s b p l) tt

      ends : (p : ℕ) → page_at s b p ≡ edge → (p < 12) ⊎ (12 ≤ p) → 12 ≤ p
      ends p e (inl l) = absurd (go (kind_of_lem s b p l))
        where
          go : Kinds (entry_at s p) (mark_of b p (entry_at s p).class) (page_at s b p) → ⊥
          go (is_free k d) = never (cc)
          go (is_class k d) = never (cc)
          go (is-taken k d) = never (cc)
          go (is_other k d) = never (cc)
      ends p e (inr l) = l

      inner : (p n j : ℕ) → page_at s b p ≡ taken n → p < j → j < p + n → (p < 12) × ((entry_at s p).kind ≡ 2) × ((entry_at s p).run ≡ n) → page_at s b j ≡ inside
      inner p n j e l u (h, k, r) = (run_there p (entry_at s p).run (sym (ok_taken s.pages b p (entry_at s p) k) ∙ ok p h)).1 j l (omega arith)

      owner : (j : ℕ) → (j < 12) × (3 ≤ (entry_at s j).kind) → (p : ℕ) × (n : ℕ) × (page_at s b p ≡ taken n) × (p < j) × (j < p + n)
      owner j (h, k) = found (lt? 3 (entry_at s j).kind)
        where
          reached : inside_ok s.pages j ≡ true → (p : ℕ) × (n : ℕ) × (page_at s b p ≡ taken n) × (p < j) × (j < p + n)
          reached a = unfold inside_ok in
              let (q, l, r) = any_some (λ q. run_reaches j q (get_or s.pages q free_entry)) j a in
              holds q l r
            where
              holds : (q : ℕ) → q < j → run_reaches j q (get_or s.pages q free_entry) ≡ true → (p : ℕ) × (n : ℕ) × (page_at s b p ≡ taken n) × (p < j) × (j < p + n)
              holds q l r =
                  let (k, u) = reaches_there j q (entry_at s q) (unfold entry_at in r) in
                  (q, (entry_at s q).run, shows q (omega arith) k, l, u)
                where
                  shows : (q : ℕ) → q < 12 → (entry_at s q).kind ≡ 2 → page_at s b q ≡ taken (entry_at s q).run
                  shows q h k = go (kind_of_lem s b q h)
                    where
                      go : Kinds (entry_at s q) (mark_of b q (entry_at s q).class) (page_at s b q) → page_at s b q ≡ taken (entry_at s q).run
                      go (is_free d e) = absurd (omega arith)
                      go (is_class d e) = absurd (omega arith)
                      go (is-taken d e) = e
                      go (is_other d e) = absurd (omega arith)

          found : (3 < (entry_at s j).kind) ⊎ ((entry_at s j).kind ≤ 3) → (p : ℕ) × (n : ℕ) × (page_at s b p ≡ taken n) × (p < j) × (j < p + n)
          found (inl u) = absurd (clash (ok j h) (ok_none s.pages b j (entry_at s j) (omega arith)))
          found (inr u) = let d : (entry_at s j).kind ≡ 3 = omega arith in reached (sym (ok_inside s.pages b j (entry_at s j) d) ∙ ok j h)

  pub kinds_there : ((p : ℕ) → p < 12 → kind_ok s.pages b p (entry_at s p) ≡ true) → (p : ℕ) → p < 12 → (entry_at s p).kind ≤ 3
  kinds_there ok p h = go (lt? 3 (entry_at s p).kind)
    where
      go : (3 < (entry_at s p).kind) ⊎ ((entry_at s p).kind ≤ 3) → (entry_at s p).kind ≤ 3
      go (inl u) = absurd (clash (ok p h) (ok_none s.pages b p (entry_at s p) (omega arith)))
      go (inr u) = u

  pub table-back : TableOk 12 (page_at s b) → ((p : ℕ) → p < 12 → (entry_at s p).kind ≤ 3) → (p : ℕ) → p < 12 → kind_ok s.pages b p (entry_at s p) ≡ true
  table-back T kinds p h = go (kind_of_lem s b p h)
    where
      run-back : page_at s b p ≡ taken (entry_at s p).run → run_ok s.pages p (entry_at s p).run ≡ true
      run-back e =
          let some : 1 ≤ (entry_at s p).run = taken_ok T e in
          unfold run_ok pick in rw (ne_eqb (entry_at s p).run 0 (omega arith)) (at_all _ ((entry_at s p).run - 1) (λ i l. third (p + 1 + i) (T.inner p (entry_at s p).run (p + 1 + i) e (omega arith) (omega arith))))
        where
          third : (j : ℕ) → page_at s b j ≡ inside → is_inside s.pages j ≡ true
          third j z = let (l, k) = inside-from j z in unfold is_inside in (unfold entry_at in eq-eqb (entry_at s j).kind 3 (omega (arith, kinds j l)))

      inside_back : page_at s b p ≡ inside → inside_ok s.pages p ≡ true
      inside_back e = let (q, n, z, l, u) = T.owner p e in at q n l u (taken-from q n z)
        where
          at : (q n : ℕ) → q < p → p < q + n → (q < 12) × ((entry_at s q).kind ≡ 2) × ((entry_at s q).run ≡ n) → inside_ok s.pages p ≡ true
          at q n l u (a, k, r) =
              unfold inside_ok in
              any_at (λ x. run_reaches p x (get_or s.pages x free_entry)) p q l
              (unfold run_reaches in (unfold entry_at in pick-both _ _ (eq-eqb (entry_at s q).kind 2 k) (lt-ltb p (q + (entry_at s q).run) (omega arith))))

      go : Kinds (entry_at s p) (mark_of b p (entry_at s p).class) (page_at s b p) → kind_ok s.pages b p (entry_at s p) ≡ true
      go (is_free k e) = ok_free s.pages b p (entry_at s p) k
      go (is_class k e) = ok_class s.pages b p (entry_at s p) k ∙ class_back b p (entry_at s p).class (slab_ok T e)
      go (is-taken k e) = ok_taken s.pages b p (entry_at s p) k ∙ run-back e
      go (is_other k e) = ok_inside s.pages b p (entry_at s p) (omega (arith, kinds p h)) ∙ inside_back e
