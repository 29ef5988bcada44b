-- The rules and the state that is read depend only on the fields of the n pages and the nine classes, marks on class pages alone.
use mathlib.Core.Path.{◌≡◌, refl, sym, ap, ◌∙◌, fun_ext}
use mathlib.Core.Logic.{◌⊎◌, inl, inr}
use mathlib.Core.Bool.{Bool, true}
use Prim.Native.Nat.{ℕ, zero, suc, ◌+◌, ◌-◌, ◌≤◌, ◌<◌}
use native.Mathlib.Omega.{arith}
use lib.Dec.{eqb, leb, ltb}
use borrow.Author.Tests.{ltb-true, leb-true}
use Rattle.base.specs.Count.{count}
use Rattle.base.proofs.Cases.{lt?}
use Rattle.base.proofs.Tests.{both_true}
use Rattle.base.proofs.AllBelow.{pick_same, each_of, all_of_same, all-at, all_same}
use Rattle.records.specs.Layout.{no_page}
use Rattle.records.specs.declared.Links.{Links}
use Rattle.records.specs.declared.ClassRecord.{ClassRecord}
use Rattle.model.specs.State.{Page, is_open}
use Rattle.model.specs.View.{used_of, shown}
use Rattle.rules.specs.Fields.{Fields, kind, class, run, next, prev, map, first, page_of, page_at}
use Rattle.rules.specs.Read.{trail, is_head, open_at, heads_of, list_of, with_lengths, tally_of, read_fields}
use Rattle.rules.specs.Rules.{kind_at, kind_from, run_fits, inside_free, ends_free, free_run, first_free, map_fits, class_with, class_page, ends_taken, taken_run, first_taken, inside_taken, by_kind, shape_at, inside_links, last_back, no_links, links_fit_at, rule2_at, rule2, linked, rule3, class_list, full_alone, rule4, rule5, free_in, counts_fit, rule6}
use Rattle.rules.specs.Plain.{Head, Open}
use Rattle.rules.specs.Agree.{Agree}
use Rattle.rules.proofs.Linked.{linked_same, trail_same}
use Rattle.rules.proofs.Pages.{page_in, page-past, head-says, open_says}

module _ {n : ℕ} {v u : Fields} (few : n ≤ no_page) (A : Agree n v u) where
  links_same : (p : ℕ) → p < n → v.image.links p ≡ u.image.links p
  links_same p h = A.image_same.links p h

  kind_same : (p : ℕ) → p < n → kind v p ≡ kind u p
  kind_same p h = ap (λ (l : Links). l.kind) (links_same p h)

  run_same : (p : ℕ) → p < n → run v p ≡ run u p
  run_same p h = ap (λ (l : Links). l.run) (links_same p h)

  next_same : (p : ℕ) → p < n → next v p ≡ next u p
  next_same p h = ap (λ (l : Links). l.next.0) (links_same p h)

  prev_same : (p : ℕ) → p < n → prev v p ≡ prev u p
  prev_same p h = ap (λ (l : Links). l.prev.0) (links_same p h)

  -- ---- the pages
  pages_same : page_at v n ≡ page_at u n
  pages_same = fun_ext (λ p. place p (lt? p n))
    where
      of_kind : (k c r : ℕ) (m m' : ℕ → Bool) → (k ≡ 2 → m ≡ m') → page_of k c r m ≡ page_of k c r m'
      of_kind zero c r m m' e = refl
      of_kind (suc zero) c r m m' e = refl
      of_kind (suc (suc zero)) c r m m' e = rw (e refl)
      of_kind (suc (suc (suc zero))) c r m m' e = refl
      of_kind (suc (suc (suc (suc zero)))) c r m m' e = refl
      of_kind (suc (suc (suc (suc (suc k))))) c r m m' e = refl

      place : (p : ℕ) → (p < n) ⊎ (n ≤ p) → page_at v n p ≡ page_at u n p
      place p (inl h) =
          page_in v n p h ∙ of_kind (kind v p) (class v p) (run v p) (v.mark p) (u.mark p) (A.marks p h)
          ∙ ap (λ (l : Links). page_of l.kind l.class l.run (u.mark p)) (links_same p h) ∙ sym (page_in u n p h)
      place p (inr h) = page-past v n p h ∙ sym (page-past u n p h)

  -- ---- rule 2
  fits_same : (p k inner : ℕ) → run_fits v n p k inner ≡ run_fits u n p k inner
  unfolding run_fits kind_from
  fits_same p k inner =
      all_of_same _ _ _ _ refl (λ s.
      all_of_same _ _ _ _ refl (λ w.
      all_of_same _ _ _ _
      (all_same (kind_from v (p + 1) inner) (kind_from u (p + 1) inner) (k - 1)
      (λ i h. rw (kind_same (p + 1 + i) (omega (arith, leb-true (p + k) n w)))))
      (λ t. refl)))

  -- a run that fits ends within the pages
  fits-within : (p k inner : ℕ) → run_fits v n p k inner ≡ true → (0 < k) × (p + k ≤ n)
  unfolding run_fits
  fits-within p k inner e = let x = each_of _ e in (ltb-true _ _ x.0, leb-true _ _ x.1.0)

  -- a field of page p that is k
  class-is : (p k : ℕ) → p < n → eqb (class v p) k ≡ eqb (class u p) k
  class-is p k h = ap (λ (l : Links). eqb l.class k) (links_same p h)

  run_is : (p k : ℕ) → p < n → eqb (run v p) k ≡ eqb (run u p) k
  run_is p k h = ap (λ (l : Links). eqb l.run k) (links_same p h)

  map_is : (p k : ℕ) → p < n → eqb (map v p) k ≡ eqb (map u p) k
  map_is p k h = ap (λ (x : ℕ). eqb x k) (A.image_same.map p h)

  next-is : (p k : ℕ) → p < n → eqb (next v p) k ≡ eqb (next u p) k
  next-is p k h = ap (λ (x : ℕ). eqb x k) (next_same p h)

  prev-is : (p k : ℕ) → p < n → eqb (prev v p) k ≡ eqb (prev u p) k
  prev-is p k h = ap (λ (x : ℕ). eqb x k) (prev_same p h)

  inside_free_same : (p : ℕ) → p < n → inside_free v p ≡ inside_free u p
  unfolding inside_free
  inside_free_same p h =
      all_of_same _ _ _ _ (class-is p 0 h) (λ t.
      all_of_same _ _ _ _ (run_is p 0 h) (λ t.
      all_of_same _ _ _ _ (map_is p 0 h) (λ t.
      all_of_same _ _ _ _ refl (λ s.
      all_of_same _ _ _ _ (ap (λ (k : ℕ). leb k 1) (kind_same (p - 1) (omega arith))) (λ t. refl)))))

  ends_free_same : (x : ℕ) → ends_free v n x ≡ ends_free u n x
  unfolding ends_free
  ends_free_same x = pick_same _ _ refl (λ w. rw (kind_same x (ltb-true _ _ w))) (λ w. refl)

  ends_taken_same : (x : ℕ) → ends_taken v n x ≡ ends_taken u n x
  unfolding ends_taken
  ends_taken_same x = pick_same _ _ refl (λ w. rw (kind_same x (ltb-true _ _ w))) (λ w. refl)

  first_free_same : (p : ℕ) → p < n → first_free v n p ≡ first_free u n p
  unfolding first_free free_run
  first_free_same p h =
      all_of_same _ _ _ _ (class-is p 0 h) (λ t.
      all_of_same _ _ _ _ (map_is p 0 h) (λ t.
      all_of_same _ _ _ _ (fits_same p (run v p) 0) (λ t.
      all_of_same _ _ _ _ (ends_free_same (p + run v p)) (λ t. refl))))
      ∙ ap (free_run u n p) (run_same p h)

  class_page_same : (p : ℕ) → p < n → kind v p ≡ 2 → class_page v p ≡ class_page u p
  unfolding class_page class_with
  class_page_same p h k =
      all_of_same _ _ _ _ refl (λ t.
      all_of_same _ _ _ _ (run_is p 0 h) (λ t.
      all_of_same _ _ _ _ refl (λ t.
      all_of_same _ _ _ _ (ap (λ (x : ℕ). map_fits x (class v p)) (A.image_same.map p h)) (λ t. refl))))
      ∙ ap (λ (l : Links). class_with u p l.class (v.mark p)) (links_same p h) ∙ ap (class_with u p (class u p)) (A.marks p h k)

  first_taken_same : (p : ℕ) → p < n → first_taken v n p ≡ first_taken u n p
  unfolding first_taken taken_run
  first_taken_same p h =
      all_of_same _ _ _ _ (class-is p 0 h) (λ t.
      all_of_same _ _ _ _ (map_is p 0 h) (λ t.
      all_of_same _ _ _ _ (fits_same p (run v p) 4) (λ t.
      all_of_same _ _ _ _ (ends_taken_same (p + run v p)) (λ t. refl))))
      ∙ ap (taken_run u n p) (run_same p h)

  inside_taken_same : (p : ℕ) → p < n → inside_taken v p ≡ inside_taken u p
  unfolding inside_taken
  inside_taken_same p h =
      all_of_same _ _ _ _ (class-is p 0 h) (λ t.
      all_of_same _ _ _ _ (run_is p 0 h) (λ t.
      all_of_same _ _ _ _ (map_is p 0 h) (λ t.
      all_of_same _ _ _ _ refl (λ s.
      all_of_same _ _ _ _ (ap (λ (k : ℕ). ltb 2 k) (kind_same (p - 1) (omega arith))) (λ t. refl)))))

  inside_links_same : (p : ℕ) → p < n → inside_links v n p ≡ inside_links u n p
  unfolding inside_links kind_at
  inside_links_same p h =
      pick_same _ _ (next-is p no_page h)
      (λ t.
      pick_same _ _ (pick_same _ _ refl (λ w. ap (λ (k : ℕ). eqb k 0) (kind_same (p + 1) (ltb-true _ _ w))) (λ w. refl)) (λ w. prev-is p no_page h) (λ w. refl))
      (λ t. refl)

  -- where the run fits
  last_back_same : (p : ℕ) → p < n → first_free v n p ≡ true → last_back v p (run v p) ≡ last_back u p (run u p)
  unfolding first_free free_run last_back
  last_back_same p h e =
      let (s, w) = fits-within p (run v p) 0 (each_of _ e).1.1.0 in
      pick_same _ _ refl (λ _. prev-is (p + run v p - 1) p (omega arith)) (λ _. refl) ∙ ap (last_back u p) (run_same p h)

  no_links_same : (p : ℕ) → p < n → no_links v p ≡ no_links u p
  unfolding no_links
  no_links_same p h = pick_same _ _ (next-is p no_page h) (λ t. prev-is p no_page h) (λ t. refl)

  by_kind_same : (k : ℕ) {a b c d e a' b' c' d' e' : Bool} → a ≡ a' → b ≡ b' → (k ≡ 2 → c ≡ c') → d ≡ d' → e ≡ e' → by_kind k a b c d e ≡ by_kind k a' b' c' d' e'
  by_kind_same zero p q r s t = p
  by_kind_same (suc zero) p q r s t = q
  by_kind_same (suc (suc zero)) p q r s t = r refl
  by_kind_same (suc (suc (suc zero))) p q r s t = s
  by_kind_same (suc (suc (suc (suc zero)))) p q r s t = t
  by_kind_same (suc (suc (suc (suc (suc k))))) p q r s t = refl

  shape_same : (p : ℕ) → p < n → shape_at v n p ≡ shape_at u n p
  unfolding shape_at
  shape_same p h =
      by_kind_same (kind v p) (inside_free_same p h) (first_free_same p h) (class_page_same p h) (first_taken_same p h) (inside_taken_same p h)
      ∙ ap (λ (k : ℕ). by_kind k (inside_free u p) (first_free u n p) (class_page u p) (first_taken u n p) (inside_taken u p)) (kind_same p h)

  links-fit_same : (p : ℕ) → p < n → shape_at v n p ≡ true → links_fit_at v n p ≡ links_fit_at u n p
  unfolding shape_at links_fit_at
  links-fit_same p h e =
      pick_same _ _ (rw (A.spare p h))
      (λ w.
      by_kind-links (kind v p) e
      ∙ ap (λ (k : ℕ). by_kind k (inside_links u n p) (last_back u p (run u p)) true (no_links u p) (no_links u p)) (kind_same p h))
      (λ w. refl)
    where
      by_kind-links : (k : ℕ) → by_kind k (inside_free v p) (first_free v n p) (class_page v p) (first_taken v n p) (inside_taken v p) ≡ true
          → by_kind k (inside_links v n p) (last_back v p (run v p)) true (no_links v p) (no_links v p)
          ≡ by_kind k (inside_links u n p) (last_back u p (run u p)) true (no_links u p) (no_links u p)
      by_kind-links zero e = inside_links_same p h
      by_kind-links (suc zero) e = last_back_same p h e
      by_kind-links (suc (suc zero)) e = refl
      by_kind-links (suc (suc (suc zero))) e = no_links_same p h
      by_kind-links (suc (suc (suc (suc zero)))) e = no_links_same p h
      by_kind-links (suc (suc (suc (suc (suc k))))) e = refl

  pub agree_rule2 : rule2 v n ≡ rule2 u n
  unfolding rule2 rule2_at
  agree_rule2 =
      all_same (rule2_at v n) (rule2_at u n) n (λ p h. pick_same _ _ (shape_same p h) (links-fit_same p h) (λ w. refl))

  -- ---- rules 3 and 4
  heads_same : is_head v n ≡ is_head u n
  unfolding is_head
  heads_same = fun_ext (λ p. pick_same _ _ refl (λ w. rw (kind_same p (ltb-true _ _ w))) (λ w. refl))

  opens_same : (c : ℕ) → open_at v n c ≡ open_at u n c
  unfolding open_at
  opens_same c = ap (λ (f : ℕ → Page). λ (p : ℕ). is_open c (f p)) pages_same

  head-below : (q : ℕ) → is_head v n q ≡ true → q < n
  unfolding Head
  head-below q e = (head-says v n q e).0

  open_below : (c q : ℕ) → open_at v n c q ≡ true → q < n
  unfolding Open
  open_below c q e = (open_says v n c q e).0

  pub agree_rule3 : rule3 v n ≡ rule3 u n
  unfolding rule3
  agree_rule3 =
      linked_same (is_head v n) (λ q t. next_same q (head-below q t)) (λ q t. prev_same q (head-below q t)) (count (is_head v n) n) no_page v.image.first_run
      ∙ rw (heads_same, A.image_same.first_run)

  class_list_same : (c : ℕ) → c < 9 → class_list v n c ≡ class_list u n c
  unfolding class_list
  class_list_same c h =
      linked_same (open_at v n c) (λ q t. next_same q (open_below c q t)) (λ q t. prev_same q (open_below c q t)) (count (open_at v n c) n) no_page (first v c)
      ∙ ap (λ (g : ℕ → Bool). linked g (next u) (prev u) (count g n) no_page (first v c)) (opens_same c)
      ∙ ap (λ (r : ClassRecord). linked (open_at u n c) (next u) (prev u) (count (open_at u n c) n) no_page r.first.0) (A.image_same.class c h)

  full_same : (p : ℕ) → p < n → full_alone v n p ≡ full_alone u n p
  unfolding full_alone
  full_same p h =
      pick_same _ _ (ap (λ (k : ℕ). eqb k 2) (kind_same p h))
      (λ _.
      pick_same _ _ (ap (λ (l : Links). open_at v n l.class p) (links_same p h) ∙ ap (λ (g : ℕ → Bool). g p) (opens_same (class u p))) (λ _. refl)
      (λ _. pick_same _ _ (next-is p no_page h) (λ _. prev-is p no_page h) (λ _. refl)))
      (λ _. refl)

  pub agree_rule4 : rule4 v n ≡ rule4 u n
  unfolding rule4
  agree_rule4 = rw (all_same (class_list v n) (class_list u n) 9 class_list_same, all_same (full_alone v n) (full_alone u n) n full_same)

  -- ---- rules 5 and 6
  pub agree_rule5 : rule5 v n ≡ rule5 u n
  unfolding rule5
  agree_rule5 = rw pages_same

  counts_same : (c : ℕ) → c < 9 → counts_fit v n c ≡ counts_fit u n c
  unfolding counts_fit used_of shown read_fields
  counts_same c h = rw (A.image_same.class c h, pages_same)

  pub agree_rule6 : rule6 v n ≡ rule6 u n
  unfolding rule6
  agree_rule6 =
      pick_same _ _ (ap (λ (x : ℕ). eqb x (free_in (page_at v n) n)) A.image_same.free_pages ∙ ap (λ (f : ℕ → Page). eqb u.image.free_pages (free_in f n)) pages_same)
      (λ t. all_same (counts_fit v n) (counts_fit u n) 9 counts_same) (λ t. refl)

  -- ---- the state that is read
  lengths_same : (nx : ℕ → ℕ) (k h b : ℕ) → linked (is_head v n) nx (prev v) k b h ≡ true →
      with_lengths (run v) (trail nx k h) ≡ with_lengths (run u) (trail nx k h)
  unfolding linked
  lengths_same nx zero h b e = refl
  lengths_same nx (suc k) h b e =
      let x = both_true _ _ e in
      rw (run_same h (head-below h x.0), lengths_same nx k (nx h) h (both_true _ _ x.1).1)

  pub agree_read : rule2 v n ≡ true → rule3 v n ≡ true → rule4 v n ≡ true → read_fields v n ≡ read_fields u n
  unfolding read_fields
  agree_read two three four = λ i. record {
    size = n;
    page = pages_same i;
    runs = runs_same i;
    lists = lists_same i;
    tally = tallies_same i;
  }
    where
      heads : trail (next v) (count (is_head v n) n) v.image.first_run ≡ trail (next u) (count (is_head u n) n) u.image.first_run
      heads = unfold rule3 in
          trail_same (is_head v n) (λ q t. next_same q (head-below q t)) (prev v) (count (is_head v n) n) no_page v.image.first_run three
          ∙ rw (heads_same, A.image_same.first_run)

      runs_same : with_lengths (run v) (heads_of v n) ≡ with_lengths (run u) (heads_of u n)
      runs_same = unfold heads_of rule3 in
          lengths_same (next v) (count (is_head v n) n) v.image.first_run no_page three ∙ ap (with_lengths (run u)) heads

      lists_same : list_of v n ≡ list_of u n
      lists_same = unfold list_of rule4 class_list in
          fun_ext (λ c. pick_same _ _ refl (λ w.
          let h : c < 9 = ltb-true _ _ w in
          trail_same (open_at v n c) (λ q t. next_same q (open_below c q t)) (prev v) (count (open_at v n c) n) no_page (first v c)
          (all-at (class_list v n) 9 (both_true _ _ four).0 c h)
          ∙ ap (λ (g : ℕ → Bool). trail (next u) (count g n) (first v c)) (opens_same c)
          ∙ ap (λ (r : ClassRecord). trail (next u) (count (open_at u n c) n) r.first.0) (A.image_same.class c h)) (λ w. refl))

      tallies_same : tally_of v ≡ tally_of u
      tallies_same = unfold tally_of in
          fun_ext (λ c. pick_same _ _ refl (λ w. rw (A.image_same.class c (ltb-true _ _ w))) (λ w. refl))
