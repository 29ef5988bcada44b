-- Rules 3 to 6 as tests and in plain form.
use mathlib.Core.Path.{◌≡◌, refl, sym, ap, ◌∙◌}
use mathlib.Core.Logic.{◌↔◌}
use mathlib.Core.Bool.{Bool, true, false, ◌&&◌, and_assoc}
use mathlib.Core.List.{List}
use Prim.Native.Nat.{ℕ, ◌*◌, ◌≤◌, ◌<◌}
use lib.Dec.{eqb, leb}
use borrow.Author.Tests.{eqb-true, eq-eqb, lt-ltb}
use Rattle.base.specs.Tests.{pick}
use Rattle.base.specs.Count.{sum, bit, count}
use Rattle.base.proofs.Cases.{clash, decided}
use Rattle.base.proofs.Tests.{both_true}
use Rattle.base.proofs.AllBelow.{pick_yes, pick-both, asked, if_asked, unless, if_unless, all-at, at_all}
use Rattle.base.proofs.Count.{sum_ext}
use Rattle.records.specs.Layout.{no_page}
use Rattle.model.specs.Classes.{chunks, own, counted, has_taken}
use Rattle.model.specs.State.{marks_of}
use Rattle.model.specs.View.{is_class, kind_of, used_of, total_in, shown}
use Rattle.model.proofs.Classes.{some-taken, taken_at}
use Rattle.rules.specs.Fields.{Fields, kind, class, next, prev, first, page_at}
use Rattle.rules.specs.Read.{trail, is_head, open_at, heads_of, list_of, read_fields}
use Rattle.rules.specs.Rules.{rule3, class_list, full_alone, rule4, in_use, rule5, free_in, counts_fit, rule6}
use Rattle.rules.specs.Plain.{Lists, Head, Open, Rule3, Rule4, Rule5, of_class, Rule6}
use Rattle.rules.proofs.Linked.{walk_lists, lists_walk, lists-alike}
use Rattle.rules.proofs.Pages.{idle_test, slab_test, head-says, says-head, open_says, says_open}

module _ (v : Fields) (n : ℕ) where
  -- ---- rule 3
  head-below : (q : ℕ) → is_head v n q ≡ true → q < n
  unfolding Head
  head-below q e = (head-says v n q e).0

  pub heads_listed : n ≤ no_page → rule3 v n ≡ true → Lists (Head v n) (next v) (prev v) v.image.first_run (heads_of v n)
  unfolding rule3 heads_of
  heads_listed few e =
      lists-alike (head-says v n) (says-head v n) (walk_lists n (is_head v n) (next v) (prev v) head-below few v.image.first_run e)

  -- the list that the walk meets
  pub listed_heads : (L : List ℕ) → Lists (Head v n) (next v) (prev v) v.image.first_run L → (rule3 v n ≡ true) × (heads_of v n ≡ L)
  unfolding rule3 heads_of
  listed_heads L K =
      lists_walk n (is_head v n) (next v) (prev v) head-below v.image.first_run L (lists-alike (says-head v n) (head-says v n) K)

  pub rule3_iff : n ≤ no_page → (rule3 v n ≡ true) ↔ Rule3 v n
  unfolding Rule3
  rule3_iff few = (λ e. (heads_of v n, heads_listed few e), λ (L, K). (listed_heads L K).0)

  -- ---- rule 4
  open_below : (c q : ℕ) → open_at v n c q ≡ true → q < n
  unfolding Open
  open_below c q e = (open_says v n c q e).0

  pub class-listed : n ≤ no_page → rule4 v n ≡ true → (c : ℕ) → c < 9 → Lists (Open v n c) (next v) (prev v) (first v c) (list_of v n c)
  unfolding rule4 class_list list_of
  class-listed few e c h =
      rw (pick_yes _ (trail (next v) (count (open_at v n c) n) (first v c)) _ (lt-ltb c 9 h))
      (lists-alike (open_says v n c) (says_open v n c)
      (walk_lists n (open_at v n c) (next v) (prev v) (open_below c) few (first v c) (all-at (class_list v n) 9 (both_true _ _ e).0 c h)))

  pub listed-class : (c : ℕ) → c < 9 → (L : List ℕ) → Lists (Open v n c) (next v) (prev v) (first v c) L → (class_list v n c ≡ true) × (list_of v n c ≡ L)
  unfolding class_list list_of
  listed-class c h L K =
      let (a, b) = lists_walk n (open_at v n c) (next v) (prev v) (open_below c) (first v c) L (lists-alike (says_open v n c) (open_says v n c) K) in
      (a, pick_yes _ _ _ (lt-ltb c 9 h) ∙ b)

  -- a full page
  pub full_alone_lem : rule4 v n ≡ true → (p : ℕ) → p < n → kind v p ≡ 2 → ¬ Open v n (class v p) p → (next v p ≡ no_page) × (prev v p ≡ no_page)
  unfolding rule4 full_alone
  full_alone_lem e p h k o =
      let t = asked _ _ (all-at (full_alone v n) n (both_true _ _ e).1 p h) (eq-eqb (kind v p) 2 k) in
      let x = both_true _ _ (unless _ _ t (decided _ (λ w. o (open_says v n (class v p) p w)))) in
      (eqb-true _ _ x.0, eqb-true _ _ x.1)

  pub says-rule4 : Rule4 v n → rule4 v n ≡ true
  unfolding rule4 full_alone
  says-rule4 R =
      pick-both _ _ (at_all (class_list v n) 9 (λ c h. let (L, K) = R.lists c h in (listed-class c h L K).0))
      (at_all (full_alone v n) n (λ p h.
      if_asked _ _ (λ t. if_unless _ _ (λ u.
      let (a, b) = R.full p h (eqb-true _ _ t) (λ o. clash (says_open v n (class v p) p o) u) in
      pick-both _ _ (eq-eqb _ _ a) (eq-eqb _ _ b)))))

  pub rule4_iff : n ≤ no_page → (rule4 v n ≡ true) ↔ Rule4 v n
  rule4_iff few = (λ e. record { lists = λ c h. (list_of v n c, class-listed few e c h); full = full_alone_lem e }, says-rule4)

  -- ---- rule 5
  use_test : (p : ℕ) → p < n → in_use (page_at v n p) ≡ pick (eqb (kind v p) 2) (has_taken (class v p) (v.mark p)) true
  use_test p h = slab_test v n in_use true refl (λ r. refl) refl refl p ∙ pick_yes _ _ _ (lt-ltb p n h)

  pub rule5-says : rule5 v n ≡ true → (p : ℕ) → p < n → kind v p ≡ 2 → has_taken (class v p) (v.mark p) ≡ true
  unfolding rule5
  rule5-says e p h k = asked _ _ (sym (use_test p h) ∙ all-at (λ q. in_use (page_at v n q)) n e p h) (eq-eqb (kind v p) 2 k)

  pub says-rule5 : ((p : ℕ) → p < n → kind v p ≡ 2 → has_taken (class v p) (v.mark p) ≡ true) → rule5 v n ≡ true
  unfolding rule5
  says-rule5 f = at_all (λ q. in_use (page_at v n q)) n (λ p h. use_test p h ∙ if_asked _ _ (λ t. f p h (eqb-true _ _ t)))

  pub rule5_iff : (rule5 v n ≡ true) ↔ Rule5 v n
  unfolding Rule5
  rule5_iff = (
    λ e p h k. some-taken (class v p) (v.mark p) (rule5-says e p h k),
    λ f. says-rule5 (λ p h k. let (i, a, b, t) = f p h k in taken_at (class v p) (v.mark p) i a b t),
  )

  -- ---- rule 6
  pick_and : (t u : Bool) → pick t u false ≡ t && u
  unfolding pick
  pick_and true u = refl
  pick_and false u = refl

  class_test : (c p : ℕ) → p < n → is_class c (kind_of (page_at v n p)) ≡ of_class v c p
  unfolding of_class
  class_test c p h =
      slab_test v n (λ x. is_class c (kind_of x)) false refl (λ r. refl) refl refl p ∙ pick_yes _ _ _ (lt-ltb p n h) ∙ pick_and (eqb (kind v p) 2) (eqb (class v p) c)

  mark_test : (c p i : ℕ) → p < n → is_class c (kind_of (page_at v n p)) && marks_of (page_at v n p) i ≡ of_class v c p && v.mark p i
  unfolding of_class
  mark_test c p i h =
      slab_test v n (λ x. is_class c (kind_of x) && marks_of x i) false refl (λ r. refl) refl refl p ∙ pick_yes _ _ _ (lt-ltb p n h)
      ∙ pick_and (eqb (kind v p) 2) (eqb (class v p) c && v.mark p i) ∙ sym (and_assoc (eqb (kind v p) 2) (eqb (class v p) c) (v.mark p i))

  pub free-counted : free_in (page_at v n) n ≡ count (λ p. leb (kind v p) 1) n
  unfolding free_in count
  free-counted = sum_ext _ _ n (λ p h. ap bit (idle_test v n p h))

  pub used-counted : (c : ℕ) → used_of (read_fields v n) c ≡ sum (λ p. count (λ i. leb (own c) i && (of_class v c p && v.mark p i)) (chunks c)) n
  unfolding used_of read_fields count
  used-counted c = sum_ext _ _ n (λ p h. sum_ext _ _ (chunks c) (λ i _. ap (λ (b : Bool). bit (leb (own c) i && b)) (mark_test c p i h)))

  pub total-counted : (c : ℕ) → (shown (read_fields v n)).total c ≡ count (of_class v c) n * counted c
  unfolding shown total_in read_fields count
  total-counted c = ap (λ (k : ℕ). k * counted c) (sum_ext _ _ n (λ p h. ap bit (class_test c p h)))

  pub rule6-says : rule6 v n ≡ true → (v.image.free_pages ≡ free_in (page_at v n) n)
      × ((c : ℕ) → c < 9 → ((v.image.class c).used ≡ used_of (read_fields v n) c) × ((v.image.class c).total ≡ (shown (read_fields v n)).total c))
  unfolding rule6 counts_fit
  rule6-says e =
      let x = both_true _ _ e in
      (eqb-true _ _ x.0, λ c h. let y = both_true _ _ (all-at (counts_fit v n) 9 x.1 c h) in (eqb-true _ _ y.0, eqb-true _ _ y.1))

  pub says-rule6 : v.image.free_pages ≡ free_in (page_at v n) n
      → ((c : ℕ) → c < 9 → ((v.image.class c).used ≡ used_of (read_fields v n) c) × ((v.image.class c).total ≡ (shown (read_fields v n)).total c)) → rule6 v n ≡ true
  unfolding rule6 counts_fit
  says-rule6 f g = pick-both _ _ (eq-eqb _ _ f) (at_all (counts_fit v n) 9 (λ c h. pick-both _ _ (eq-eqb _ _ (g c h).0) (eq-eqb _ _ (g c h).1)))

  pub rule6_iff : (rule6 v n ≡ true) ↔ Rule6 v n
  rule6_iff = (
    λ e. let (f, g) = rule6-says e in
        record { free_pages = f ∙ free-counted; used = λ c h. (g c h).0 ∙ used-counted c; total = λ c h. (g c h).1 ∙ total-counted c },
    λ R. says-rule6 (R.free_pages ∙ sym free-counted) (λ c h. (R.used c h ∙ sym (used-counted c), R.total c h ∙ sym (total-counted c))),
  )
