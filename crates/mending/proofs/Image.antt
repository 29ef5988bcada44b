-- The records of the state made anew: kinds, classes, run lengths and maps as they stand, neighbours found by search.
use mathlib.Core.Path.{◌≡◌, refl, sym, ap, ◌∙◌, fun_ext}
use mathlib.Core.Logic.{◌⊎◌, inl, inr, ◌≢◌}
use mathlib.Core.Bool.{Bool, true, false, not}
use Prim.Native.Nat.{ℕ, zero, suc, ◌+◌, ◌-◌, ◌≤◌, ◌<◌}
use native.Mathlib.Omega.{arith}
use lib.Dec.{ltb}
use borrow.Author.Tests.{eq-eqb, ne_eqb, eqb-true, lt-ltb, le-ltb, ltb-true}
use Rattle.base.specs.Tests.{pick}
use Rattle.base.specs.Lists.{Mem, keep}
use Rattle.base.specs.Links.{head_or, next_in, prev_from}
use Rattle.base.proofs.Cases.{clash, decided, same_test, eq?, lt?}
use Rattle.base.proofs.Lists.{keep-mem}
use Rattle.base.proofs.Tests.{both_true}
use Rattle.base.proofs.AllBelow.{pick_yes, pick_no, pick-both}
use Rattle.records.specs.Layout.{no_page}
use Rattle.model.specs.State.{Page, idle, slab, taken, inside, Tally, State, is_idle}
use Rattle.model.specs.WellFormed.{Stretch, RunsOk, WellFormed}
use Rattle.model.specs.Runs.{starts_at, ends_at}
use Rattle.model.specs.View.{used_of, shown}
use Rattle.model.specs.Expected.{after_free, stretch_at}
use Rattle.model.proofs.Runs.{stretch_listed, starts_at_lem, ends_at_lem}
use Rattle.maps.specs.Bitmap.{bits_of}
use Rattle.image.specs.Image.{Same}
use Rattle.rules.specs.Fields.{Fields, kind, class, run, map, page_at}
use Rattle.rules.specs.Read.{is_head, open_at, read_fields, tally_of}
use Rattle.rules.specs.Rules.{kind_at}
use Rattle.rules.specs.Plain.{LiesIn, Head, Open}
use Rattle.rules.specs.Drawn.{starts, links, back_link, free_links, page_links, map_of, state_image}
use Rattle.rules.specs.Agree.{Bounds}
use Rattle.rules.proofs.Linked.{next-off, prev-off}
use Rattle.rules.proofs.Pages.{page-kind, page-idle, idle_there, head-says, says-head, open_says}
use Rattle.rules.proofs.Runs.{ended, inner_start}
use Rattle.rules.specs.Plain.{Shape}
use Rattle.rules.proofs.Shape.{two}
use Rattle.rules.proofs.Well.{run_at, stretch}
use Rattle.rules.proofs.Drawn.{starts_are}
use Rattle.mending.specs.Remade.{up_from, starts_run, runs_anew, list_anew, remade}
use Rattle.mending.proofs.Remade.{stretch as stretch-at, starts_at_lem as stretch-starts}
use Rattle.mending.specs.Mirror.{first_from, last_below, ends_run, next_anew, prev_anew, class_anew, page_anew, image_anew}
use Rattle.mending.proofs.Neighbours.{first_of, next_of, prev_of, last_is}

links_path : {k l c d r o x y a b : ℕ} → k ≡ l → c ≡ d → r ≡ o → x ≡ y → a ≡ b → links k c r x a ≡ links l d o y b
links_path p q s t u = λ i. links (p i) (q i) (s i) (t i) (u i)

module _ (v : Fields) (n : ℕ) (S : Shape v n) (B : Bounds v n) (W : WellFormed (remade n (page_at v n) (tally_of v))) where
  abbrev m : State
  m = remade n (page_at v n) (tally_of v)

  abbrev g : ℕ → Bool
  g j = is_idle (page_at v n j)

  G : RunsOk g (runs_anew n g)
  G = unfold remade in W.free_runs

  past : (p : ℕ) → n ≤ p → g p ≡ false
  past p l = decided _ (λ e. omega (arith, (idle_there v n p e).0))

  -- ---- the first pages of the free runs

  listed : (p : ℕ) → p < n → kind v p ≡ 1 → Mem (run_at (run v) p) (runs_anew n g)
  listed p h k = stretch_listed G (run_at (run v) p) (stretch v n B S p h k)

  starts_first : (p : ℕ) → p < n → kind v p ≡ 1 → starts_at p (runs_anew n g) ≡ run v p
  starts_first p h k = starts_at_lem G (run_at (run v) p) (listed p h k)

  starts-inner : (p : ℕ) → p < n → kind v p ≡ 0 → starts_at p (runs_anew n g) ≡ 0
  unfolding LiesIn
  starts-inner p h k = let (q, l, d, a, b) = (S.kind0 p h k).lies in inner_start G (run_at (run v) q) (listed q l d) p a b

  heads_are : (p : ℕ) → starts_run n g p ≡ is_head v n p
  unfolding starts_run Head LiesIn after_free
  heads_are p = same_test _ _ (λ e. there (ltb-true _ _ e)) (λ e. let (h, k) = head-says v n p e in lt-ltb 0 (stretch_at n g p) (back h k))
    where
      there : 0 < stretch_at n g p → is_head v n p ≡ true
      there l =
          let T = stretch-at n g past p l in
          let (h, k) = idle_there v n p (T.all_free p (omega arith) (omega arith)) in
          go T h (two (kind v p) k)
        where
          -- inside a run a free page borders
          go : Stretch g (run_at (stretch_at n g) p) → p < n → (kind v p ≡ 1) ⊎ (kind v p ≡ 0) → is_head v n p ≡ true
          go T h (inl k) = says-head v n p (h, k)
          go T h (inr k) =
              let (q, l, d, a, b) = (S.kind0 p h k).lies in
              absurd (clash ((stretch v n B S q l d).all_free (p - 1) (omega arith) (omega arith)) (T.low_end (p - 1) (omega arith)))

      after : (j : ℕ) → Stretch g (run_at (run v) j) → after_free g j ≡ false
      after zero F = refl
      after (suc j) F = F.low_end j refl

      back : p < n → kind v p ≡ 1 → 0 < stretch_at n g p
      back h k =
          let F = stretch v n B S p h k in
          stretch-starts n g past p (F.all_free p (omega arith) (omega (arith, F.some-page))) (after p F)

  heads : starts (runs_anew n g) ≡ keep (is_head v n) (up_from 0 n)
  unfolding runs_anew
  heads =
      starts_are (stretch_at n g) (keep (starts_run n g) (up_from 0 n))
      ∙ ap (λ (q : ℕ → Bool). keep q (up_from 0 n)) (fun_ext heads_are)

  -- ---- the last page of a free run leads back

  not-head : (p : ℕ) → kind v p ≢ 1 → is_head v n p ≡ false
  unfolding Head
  not-head p d = decided _ (λ e. d (head-says v n p e).1)

  not_open : (c p : ℕ) → kind v p ≢ 2 → open_at v n c p ≡ false
  unfolding Open
  not_open c p d = decided _ (λ e. d (open_says v n c p e).1)

  kind-says : (k p : ℕ) → kind_at v n k p ≡ true → (p < n) × (kind v p ≡ k)
  unfolding kind_at
  kind-says k p e = let x = both_true _ _ e in (ltb-true _ _ x.0, eqb-true _ _ x.1)

  says-kind : (k p : ℕ) → p < n → kind v p ≡ k → kind_at v n k p ≡ true
  unfolding kind_at
  says-kind k p h e = pick-both _ _ (lt-ltb p n h) (eq-eqb (kind v p) k e)

  back_is : (p : ℕ) → p < n → kind v p ≡ 0 → back_link (runs_anew n g) p ≡ pick (ends_run v n p) (last_below (is_head v n) p) no_page
  unfolding LiesIn Head back_link ends_run
  back_is p h k = go (kind_at v n 0 (p + 1)) refl
    where
      ends : (t : Bool) → kind_at v n 0 (p + 1) ≡ t → ends_run v n p ≡ not t
      ends t e = pick_yes _ _ _ (eq-eqb (kind v p) 0 k) ∙ ap not e

      go : (t : Bool) → kind_at v n 0 (p + 1) ≡ t → back_link (runs_anew n g) p ≡ pick (ends_run v n p) (last_below (is_head v n) p) no_page
      go true e = pick_yes _ _ _ (eq-eqb _ 0 none) ∙ sym (pick_no _ _ _ (ends true e))
        where
          none : ends_at (p + 1) (runs_anew n g) ≡ 0
          none = side (eq? (ends_at (p + 1) (runs_anew n g)) 0)
            where
              side : (ends_at (p + 1) (runs_anew n g) ≡ 0) ⊎ (ends_at (p + 1) (runs_anew n g) ≢ 0) → ends_at (p + 1) (runs_anew n g) ≡ 0
              side (inl z) = z
              side (inr z) =
                  let (r, rm, a, b) = ended G (p + 1) z in
                  let (x, y) = kind-says 0 (p + 1) e in
                  absurd (clash (ap is_idle (page-idle v n (p + 1) x (omega arith))) ((G.sound r rm).high_end (p + 1) (sym a)))
      go false e =
          let (q, l, d, a, b) = (S.kind0 p h k).lies in
          found q l d a b (lt? (p + 1) (q + run v q))
        where
          found : (q : ℕ) → q < n → kind v q ≡ 1 → q < p → p < q + run v q → (p + 1 < q + run v q) ⊎ (q + run v q ≤ p + 1) →
              back_link (runs_anew n g) p ≡ pick (ends_run v n p) (last_below (is_head v n) p) no_page
          found q l d a b (inl x) =
              let F = (S.kind1 q l d).fits in
              absurd (clash (says-kind 0 (p + 1) (omega (arith, F.within)) (F.each (p + 1) (omega arith) x)) e)
          found q l d a b (inr x) =
              let z : q + run v q ≡ p + 1 = omega arith in
              let y : ends_at (p + 1) (runs_anew n g) ≡ run v q = ap (λ (j : ℕ). ends_at j (runs_anew n g)) (sym z) ∙ ends_at_lem G (run_at (run v) q) (listed q l d) in
              let o : ends_at (p + 1) (runs_anew n g) ≢ 0 = λ f. omega arith in
              let first : last_below (is_head v n) p ≡ q =
              last_is (is_head v n) p q a (says-head v n q (l, d)) (λ j u w. not-head j (λ f. omega (arith, (S.kind1 q l d).fits.each j u (omega arith)))) in
              let here : p + 1 - ends_at (p + 1) (runs_anew n g) ≡ q = omega arith in
              pick_no _ _ _ (ne_eqb _ 0 o) ∙ here ∙ sym first ∙ sym (pick_yes _ _ _ (ends false e))

  -- ---- neighbours

  -- the search goes on with the page after p
  after_is : (q : ℕ → Bool) (p : ℕ) → first_from q (suc p) (0 + n - suc p) ≡ first_from q (p + 1) (n - (p + 1))
  after_is q p =
      let a : suc p ≡ p + 1 = omega arith in
      let b : 0 + n - suc p ≡ n - (p + 1) = omega arith in
      λ i. first_from q (a i) (b i)

  next_on : (q : ℕ → Bool) (p : ℕ) → p < n → q p ≡ true → next_in no_page p (keep q (up_from 0 n)) ≡ first_from q (p + 1) (n - (p + 1))
  next_on q p h t = next_of q 0 n p (omega arith) (omega arith) t ∙ after_is q p

  prev_on : (q : ℕ → Bool) (p : ℕ) → p < n → q p ≡ true → prev_from no_page no_page p (keep q (up_from 0 n)) ≡ last_below q p
  unfolding last_below
  prev_on q p h t = prev_of q 0 n p (omega arith) (omega arith) t

  off : (q : ℕ → Bool) (p : ℕ) → q p ≡ false → ¬ Mem p (keep q (up_from 0 n))
  off q p e x = clash (keep-mem q p (up_from 0 n) x).1 e

  -- ---- the records of pages

  no-next : (p : ℕ) → kind v p ≢ 1 → kind v p ≢ 2 → next_anew v n p ≡ no_page
  unfolding next_anew
  no-next p a b = pick_no _ _ _ (not-head p a) ∙ pick_no _ _ _ (not_open (class v p) p b)

  only-back : (p : ℕ) → kind v p ≢ 1 → kind v p ≢ 2 → prev_anew v n p ≡ pick (ends_run v n p) (last_below (is_head v n) p) no_page
  unfolding prev_anew
  only-back p a b = pick_no _ _ _ (not-head p a) ∙ pick_no _ _ _ (not_open (class v p) p b)

  no_end : (p : ℕ) → kind v p ≢ 0 → ends_run v n p ≡ false
  unfolding ends_run
  no_end p a = pick_no _ _ _ (ne_eqb (kind v p) 0 a)

  no-prev : (p : ℕ) → kind v p ≢ 0 → kind v p ≢ 1 → kind v p ≢ 2 → prev_anew v n p ≡ no_page
  no-prev p z a b = only-back p a b ∙ pick_no _ _ _ (no_end p z)

  abbrev Kept : ℕ → Page → Type 0
  Kept p x = page_links (runs_anew n g) (list_anew n (page_at v n)) p x ≡ links (kind v p) (class v p) (run v p) (next_anew v n p) (prev_anew v n p)

  inside_free_lem : (p : ℕ) → p < n → kind v p ≡ 0 → Kept p idle
  unfolding free_links
  inside_free_lem p h k =
      let I = S.kind0 p h k in
      pick_yes _ _ _ (eq-eqb _ 0 (starts-inner p h k))
      ∙ links_path (sym k) (sym I.no-class) (sym I.no_run) (sym (no-next p (λ e. omega arith) (λ e. omega arith)))
      (back_is p h k ∙ sym (only-back p (λ e. omega arith) (λ e. omega arith)))

  first_free_lem : (p : ℕ) → p < n → kind v p ≡ 1 → Kept p idle
  unfolding free_links next_anew prev_anew Head
  first_free_lem p h k =
      let I = S.kind1 p h k in
      let e = starts_first p h k in
      let t : is_head v n p ≡ true = says-head v n p (h, k) in
      let o : starts_at p (runs_anew n g) ≢ 0 = λ z. omega (arith, I.fits.some-page) in
      pick_no _ _ _ (ne_eqb _ 0 o)
      ∙ links_path (sym k) (sym I.no-class) e
      (ap (next_in no_page p) heads ∙ next_on (is_head v n) p h t ∙ sym (pick_yes _ _ _ t))
      (ap (prev_from no_page no_page p) heads ∙ prev_on (is_head v n) p h t ∙ sym (pick_yes _ _ _ t))

  class_page_lem : (p : ℕ) → p < n → kind v p ≡ 2 → Kept p (slab (class v p) (v.mark p))
  unfolding list_anew open_at next_anew prev_anew
  class_page_lem p h k =
      links_path (sym k) refl (sym (S.kind2 p h k).no_run)
      (nexts (open_at v n (class v p) p) refl ∙ sym (pick_no _ _ _ (not-head p (λ e. omega arith))))
      (prevs (open_at v n (class v p) p) refl ∙ sym (pick_no _ _ _ (not-head p (λ e. omega arith))))
    where
      nexts : (t : Bool) → open_at v n (class v p) p ≡ t → next_in no_page p (keep (open_at v n (class v p)) (up_from 0 n))
          ≡ pick (open_at v n (class v p) p) (first_from (open_at v n (class v p)) (p + 1) (n - (p + 1))) no_page
      nexts true e = next_on (open_at v n (class v p)) p h e ∙ sym (pick_yes _ _ _ e)
      nexts false e = next-off (keep (open_at v n (class v p)) (up_from 0 n)) p (off (open_at v n (class v p)) p e) ∙ sym (pick_no _ _ _ e)

      prevs : (t : Bool) → open_at v n (class v p) p ≡ t → prev_from no_page no_page p (keep (open_at v n (class v p)) (up_from 0 n))
          ≡ pick (open_at v n (class v p) p) (last_below (open_at v n (class v p)) p) (pick (ends_run v n p) (last_below (is_head v n) p) no_page)
      prevs true e = prev_on (open_at v n (class v p)) p h e ∙ sym (pick_yes _ _ _ e)
      prevs false e =
          prev-off (keep (open_at v n (class v p)) (up_from 0 n)) no_page p (off (open_at v n (class v p)) p e)
          ∙ sym (pick_no _ _ _ (no_end p (λ d. omega arith))) ∙ sym (pick_no _ _ _ e)

  first_taken_lem : (p : ℕ) → p < n → kind v p ≡ 3 → Kept p (taken (run v p))
  first_taken_lem p h k =
      links_path (sym k) (sym (S.kind3 p h k).no-class) refl (sym (no-next p (λ e. omega arith) (λ e. omega arith)))
      (sym (no-prev p (λ e. omega arith) (λ e. omega arith) (λ e. omega arith)))

  inside_taken_lem : (p : ℕ) → p < n → kind v p ≡ 4 → Kept p inside
  inside_taken_lem p h k =
      links_path (sym k) (sym (S.kind4 p h k).no-class) (sym (S.kind4 p h k).no_run) (sym (no-next p (λ e. omega arith) (λ e. omega arith)))
      (sym (no-prev p (λ e. omega arith) (λ e. omega arith) (λ e. omega arith)))

  -- what holds of each page by its kind
  by_kind_lem : (P : Page → Type 0) (p : ℕ) → p < n → (kind v p ≤ 1 → P idle) → (kind v p ≡ 2 → P (slab (class v p) (v.mark p))) →
      (kind v p ≡ 3 → P (taken (run v p))) → (kind v p ≡ 4 → P inside) → P (page_at v n p)
  by_kind_lem P p h a b c d = go (kind v p) refl
    where
      go : (k : ℕ) → kind v p ≡ k → P (page_at v n p)
      go zero k = rw (page-kind v n p 0 h k) (a (omega arith))
      go (suc zero) k = rw (page-kind v n p 1 h k) (a (omega arith))
      go (suc (suc zero)) k = rw (page-kind v n p 2 h k) (b k)
      go (suc (suc (suc zero))) k = rw (page-kind v n p 3 h k) (c k)
      go (suc (suc (suc (suc zero)))) k = rw (page-kind v n p 4 h k) (d k)
      go (suc (suc (suc (suc (suc k))))) e = absurd (omega (arith, S.kinds p h))

  kept : (p : ℕ) → p < n → Kept p (page_at v n p)
  kept p h = by_kind_lem (Kept p) p h (λ a. free (two (kind v p) a)) (class_page_lem p h) (first_taken_lem p h) (inside_taken_lem p h)
    where
      free : (kind v p ≡ 1) ⊎ (kind v p ≡ 0) → Kept p idle
      free (inl k) = first_free_lem p h k
      free (inr k) = inside_free_lem p h k

  map-kept : (p : ℕ) → p < n → map_of (page_at v n p) ≡ map v p
  map-kept p h =
      by_kind_lem (λ x. map_of x ≡ map v p) p h (λ a. free (two (kind v p) a)) (λ k. maps k (lt? (class v p) 3)) (λ k. sym (S.kind3 p h k).no-map)
      (λ k. sym (S.kind4 p h k).no-map)
    where
      free : (kind v p ≡ 1) ⊎ (kind v p ≡ 0) → 0 ≡ map v p
      free (inl k) = sym (S.kind1 p h k).no-map
      free (inr k) = sym (S.kind0 p h k).no-map

      maps : kind v p ≡ 2 → (class v p < 3) ⊎ (3 ≤ class v p) → pick (ltb (class v p) 3) 0 (bits_of (v.mark p) 64) ≡ map v p
      maps k (inl a) = pick_yes _ _ _ (lt-ltb (class v p) 3 a) ∙ sym ((S.kind2 p h k).map-small a)
      maps k (inr a) =
          pick_no _ _ _ (le-ltb (class v p) 3 a) ∙ sym (B.maps p h k a (S.kind2 p h k).in_range ((S.kind2 p h k).map-large a))

  -- ---- the whole image
  pub image_anew_lem : Same n (state_image m) (image_anew v n)
  unfolding state_image image_anew class_anew page_anew remade
  image_anew_lem = record {
    free_pages = refl;
    first_run = ap (head_or no_page) heads ∙ first_of (is_head v n) 0 n;
    class = λ c h. λ i. record {
      first = record { 0 = first c i };
      used = used c i;
      total = total c i;
      reqs = reqs c h i;
      fails = fails c h i;
    };
    map = map-kept;
    links = kept;
  }
    where
      first : (c : ℕ) → head_or no_page (list_anew n (page_at v n) c) ≡ first_from (open_at v n c) 0 n
      first c = unfold list_anew open_at in first_of (open_at v n c) 0 n

      used : (c : ℕ) → used_of (remade n (page_at v n) (tally_of v)) c ≡ used_of (read_fields v n) c
      used c = unfold used_of remade read_fields in refl

      total : (c : ℕ) → (shown (remade n (page_at v n) (tally_of v))).total c ≡ (shown (read_fields v n)).total c
      total c = unfold shown remade read_fields in refl

      reqs : (c : ℕ) → c < 9 → (tally_of v c).reqs ≡ (v.image.class c).reqs
      reqs c h = unfold tally_of in ap (λ (t : Tally). t.reqs) (pick_yes _ _ _ (lt-ltb c 9 h))

      fails : (c : ℕ) → c < 9 → (tally_of v c).fails ≡ (v.image.class c).fails
      fails c h = unfold tally_of in ap (λ (t : Tally). t.fails) (pick_yes _ _ _ (lt-ltb c 9 h))
