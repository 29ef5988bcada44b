-- The tests of a whole run hold exactly where its pages keep rule 2.
use mathlib.Core.Path.{◌≡◌, refl, sym, ap, ◌∙◌}
use mathlib.Core.Logic.{◌⊎◌, inl, inr, ⊎_elim, ◌≢◌}
use mathlib.Core.Bool.{true}
use mathlib.Core.List.{List}
use Prim.Native.Nat.{ℕ, ◌+◌, ◌-◌, ◌*◌, ◌%◌, ◌≤◌, ◌<◌}
use native.Mathlib.Omega.{arith}
use borrow.Author.Tests.{eq-eqb, eqb-true, eqb-false, lt-ltb, ltb-true, le-leb, leb-true, not-true}
use Rattle.base.specs.Tests.{pick}
use Rattle.base.proofs.Tests.{both_true}
use Rattle.base.proofs.Cases.{eq?}
use Rattle.base.proofs.AllBelow.{asked, if_asked, pick-both, ◌&◌, each_of, all_of_lem, all-at, at_all}
use Rattle.words.specs.Word.{Bytes, word}
use Rattle.words.proofs.Laws.{word_small}
use Rattle.records.specs.Layout.{no_page, links_place}
use Rattle.records.specs.declared.Links.{Links}
use Rattle.records.specs.Page.{pack_links, unpack_links, links_at}
use Rattle.records.proofs.Laws.{pack_unpack_links}
use Rattle.rules.specs.Fields.{Fields, kind, class, run, next, prev, map}
use Rattle.rules.specs.Rules.{kind_at, kind_from, run_fits, inside_free, ends_free, free_run, first_free, class_page, ends_taken, taken_run, first_taken, inside_taken, by_kind, shape_at, inside_links, last_back, no_links, links_fit_at, rule2_at}
use Rattle.rules.specs.Drawn.{links}
use Rattle.rules.specs.Bytes.{image_of, fields_of}
use Rattle.validate_runs.specs.Mirror.{plain_at, plain_from, begins, last_plain, free_inside, free_rest, free_whole, taken_rest, taken_whole, Kept, Border}

-- ---- rule 2 at a page of a run

module _ (v : Fields) (n p : ℕ) where
  spare-none : rule2_at v n p ≡ true → v.spare p ≡ 0
  unfolding rule2_at links_fit_at
  spare-none e = eqb-true (v.spare p) 0 (both_true _ _ (both_true _ _ e).1).0

  shape-by : rule2_at v n p ≡ true → by_kind (kind v p) (inside_free v p) (first_free v n p) (class_page v p) (first_taken v n p) (inside_taken v p) ≡ true
  unfolding rule2_at shape_at
  shape-by e = (both_true _ _ e).0

  links-by : rule2_at v n p ≡ true → by_kind (kind v p) (inside_links v n p) (last_back v p (run v p)) true (no_links v p) (no_links v p) ≡ true
  unfolding rule2_at links_fit_at
  links-by e = (both_true _ _ (both_true _ _ e).1).1

  at_0 : kind v p ≡ 0 → rule2_at v n p ≡ true → (inside_free v p ≡ true) × (inside_links v n p ≡ true)
  at_0 k e = (rw k at (shape-by e), rw k at (links-by e))

  at_1 : kind v p ≡ 1 → rule2_at v n p ≡ true → (first_free v n p ≡ true) × (last_back v p (run v p) ≡ true)
  at_1 k e = (rw k at (shape-by e), rw k at (links-by e))

  at_3 : kind v p ≡ 3 → rule2_at v n p ≡ true → (first_taken v n p ≡ true) × (no_links v p ≡ true)
  at_3 k e = (rw k at (shape-by e), rw k at (links-by e))

  at_4 : kind v p ≡ 4 → rule2_at v n p ≡ true → (inside_taken v p ≡ true) × (no_links v p ≡ true)
  at_4 k e = (rw k at (shape-by e), rw k at (links-by e))

  kept_0 : v.spare p ≡ 0 → kind v p ≡ 0 → (inside_free v p ≡ true) × (inside_links v n p ≡ true) → rule2_at v n p ≡ true
  unfolding rule2_at shape_at links_fit_at pick
  kept_0 z k (e, l) = rw (z, k) (pick-both _ _ e l)

  kept_1 : v.spare p ≡ 0 → kind v p ≡ 1 → first_free v n p ≡ true → last_back v p (run v p) ≡ true → rule2_at v n p ≡ true
  unfolding rule2_at shape_at links_fit_at pick
  kept_1 z k e l = rw (z, k) (pick-both _ _ e l)

  kept_3 : v.spare p ≡ 0 → kind v p ≡ 3 → first_taken v n p ≡ true → no_links v p ≡ true → rule2_at v n p ≡ true
  unfolding rule2_at shape_at links_fit_at pick
  kept_3 z k e l = rw (z, k) (pick-both _ _ e l)

  kept_4 : v.spare p ≡ 0 → kind v p ≡ 4 → (inside_taken v p ≡ true) × (no_links v p ≡ true) → rule2_at v n p ≡ true
  unfolding rule2_at shape_at links_fit_at pick
  kept_4 z k (e, l) = rw (z, k) (pick-both _ _ e l)

  no_links_lem : next v p ≡ no_page → prev v p ≡ no_page → no_links v p ≡ true
  unfolding no_links
  no_links_lem f q = pick-both _ _ (eq-eqb _ no_page f) (eq-eqb _ no_page q)

  no_links-says : no_links v p ≡ true → (next v p ≡ no_page) × (prev v p ≡ no_page)
  unfolding no_links
  no_links-says e = let (f, q) = both_true _ _ e in (eqb-true _ _ f, eqb-true _ _ q)

  inside_free_lem : class v p ≡ 0 → run v p ≡ 0 → map v p ≡ 0 → next v p ≡ no_page → 0 < p → kind v (p - 1) ≤ 1 → (kind_at v n 0 (p + 1) ≡ true → prev v p ≡ no_page)
      → (inside_free v p ≡ true) × (inside_links v n p ≡ true)
  unfolding inside_free inside_links
  inside_free_lem c r m f h b q = (
    all_of_lem _ (eq-eqb _ 0 c & eq-eqb _ 0 r & eq-eqb _ 0 m & lt-ltb 0 p h & le-leb _ 1 b & tt),
    pick-both _ _ (eq-eqb _ no_page f) (if_asked _ _ (λ a. eq-eqb _ no_page (q a))),
  )

  inside_taken_lem : class v p ≡ 0 → run v p ≡ 0 → map v p ≡ 0 → next v p ≡ no_page → prev v p ≡ no_page → 0 < p → 2 < kind v (p - 1)
      → (inside_taken v p ≡ true) × (no_links v p ≡ true)
  unfolding inside_taken
  inside_taken_lem c r m f q h b = (all_of_lem _ (eq-eqb _ 0 c & eq-eqb _ 0 r & eq-eqb _ 0 m & lt-ltb 0 p h & lt-ltb 2 _ b & tt), no_links_lem f q)

  inside_free-says : (inside_free v p ≡ true) × (inside_links v n p ≡ true)
      → (class v p ≡ 0) × (run v p ≡ 0) × (map v p ≡ 0) × (next v p ≡ no_page) × (0 < p) × (kind v (p - 1) ≤ 1)
      × (p + 1 < n → kind v (p + 1) ≡ 0 → prev v p ≡ no_page)
  unfolding inside_free inside_links kind_at
  inside_free-says (e, l) =
      let x = each_of _ e in
      let y = both_true _ _ l in (
        eqb-true _ _ x.0,
        eqb-true _ _ x.1.0,
        eqb-true _ _ x.1.1.0,
        eqb-true _ _ y.0,
        ltb-true _ _ x.1.1.1.0,
        leb-true _ _ x.1.1.1.1.0,
        λ h k. eqb-true _ _ (asked _ _ y.1 (pick-both _ _ (lt-ltb (p + 1) n h) (eq-eqb _ 0 k))),
      )

  inside_taken-says : (inside_taken v p ≡ true) × (no_links v p ≡ true)
      → (class v p ≡ 0) × (run v p ≡ 0) × (map v p ≡ 0) × (next v p ≡ no_page) × (prev v p ≡ no_page) × (0 < p) × (2 < kind v (p - 1))
  unfolding inside_taken
  inside_taken-says (e, l) =
      let x = each_of _ e in
      let y = no_links-says l in
      (eqb-true _ _ x.0, eqb-true _ _ x.1.0, eqb-true _ _ x.1.1.0, y.0, y.1, ltb-true _ _ x.1.1.1.0, ltb-true _ _ x.1.1.1.1.0)

  fits-says : (k inner : ℕ) → run_fits v n p k inner ≡ true → (0 < k) × (p + k ≤ n) × ((j : ℕ) → p < j → j < p + k → kind v j ≡ inner)
  unfolding run_fits kind_from
  fits-says k inner e =
      let x = each_of _ e in (
        ltb-true _ _ x.0,
        leb-true _ _ x.1.0,
        λ j l h.
            let y : p + 1 + (j - (p + 1)) ≡ j = omega (arith, ltb-true 0 k x.0) in
            sym (ap (kind v) y) ∙ eqb-true _ _ (all-at _ (k - 1) x.1.1.0 (j - (p + 1)) (omega (arith, ltb-true 0 k x.0))),
      )

links_are : (l : Links) (a b c d e : ℕ) → l.kind ≡ a → l.class ≡ b → l.run ≡ c → l.next.0 ≡ d → l.prev.0 ≡ e → l ≡ links a b c d e
links_are l a b c d e p q r x y = λ i. record { kind = p i; class = q i; run = r i; next = record { 0 = x i }; prev = record { 0 = y i } }

-- ---- a page told by its words

module _ (w : ℕ) (s : List ℕ) where
  abbrev v : Fields
  v = fields_of w s

  plain-links : (x j : ℕ) → plain_at w s x j ≡ true → v.image.links j ≡ unpack_links x
  unfolding plain_at fields_of image_of links_at
  plain-links x j e = ap unpack_links (eqb-true (word s (links_place w j)) x (both_true _ _ e).0)

  plain-spare : (x j : ℕ) → plain_at w s x j ≡ true → v.spare j ≡ x % 512
  unfolding plain_at fields_of
  plain-spare x j e = ap (λ (y : ℕ). y % 512) (eqb-true (word s (links_place w j)) x (both_true _ _ e).0)

  plain_map : (x j : ℕ) → plain_at w s x j ≡ true → map v j ≡ 0
  unfolding plain_at
  plain_map x j e = eqb-true (map v j) 0 (both_true _ _ e).1

  told-plain : Bytes s → (x j : ℕ) (l : Links) → v.image.links j ≡ l → v.spare j ≡ 0 → map v j ≡ 0 → pack_links l ≡ x → plain_at w s x j ≡ true
  unfolding plain_at fields_of image_of links_at
  told-plain B x j l e z m q =
      let y : word s (links_place w j) ≡ x =
      sym (pack_unpack_links (word s (links_place w j)) (word_small s (links_place w j) B) z) ∙ ap pack_links e ∙ q in
      pick-both _ _ (eq-eqb _ x y) (eq-eqb _ 0 m)

  -- ---- the first page of a run

  pub begins-says : (n p : ℕ) (l : Links) → begins w s n p l ≡ true → (l.class ≡ 0) × (map v p ≡ 0) × (0 < l.run) × (p + l.run ≤ n)
  unfolding begins
  begins-says n p l e =
      let a = each_of _ e in
      (eqb-true _ _ a.0, eqb-true _ _ a.1.0, ltb-true 0 l.run a.1.1.0, leb-true (p + l.run) n a.1.1.1.0)

  must_begin : (n p : ℕ) (l : Links) → l.class ≡ 0 → map v p ≡ 0 → 0 < l.run → p + l.run ≤ n → begins w s n p l ≡ true
  unfolding begins
  must_begin n p l c m h b = all_of_lem _ (eq-eqb _ 0 c & eq-eqb _ 0 m & lt-ltb 0 l.run h & le-leb (p + l.run) n b & tt)

  -- ---- a free run

  module _ (n p : ℕ) (few : n ≤ no_page) (z : v.spare p ≡ 0) (first : kind v p ≡ 1) where
    abbrev k : ℕ
    k = run v p

    module _ (e : free_whole w s n p (v.image.links p) ≡ true) where
      tests : (class v p ≡ 0) × (map v p ≡ 0) × (0 < k) × (p + k ≤ n)
      unfolding free_whole
      tests = begins-says n p _ (both_true _ _ e).0

      ends : ends_free v n (p + k) ≡ true
      unfolding free_whole free_rest
      ends = (both_true _ _ (both_true _ _ e).1).0

      last : 1 < k → plain_at w s (2198989701120 + 512 * p) (p + k - 1) ≡ true
      unfolding free_whole free_rest free_inside last_plain
      last h = asked _ _ (both_true _ _ (both_true _ _ (both_true _ _ e).1).1).0 (lt-ltb 1 k h)

      inner : (j : ℕ) → p < j → j < p + k - 1 → plain_at w s 2199023255040 j ≡ true
      unfolding free_whole free_rest free_inside plain_from
      inner j l h =
          let a = all-at _ (k - 2) (both_true _ _ (both_true _ _ (both_true _ _ e).1).1).1 (j - (p + 1)) (omega arith) in
          let y : p + 1 + (j - (p + 1)) ≡ j = omega arith in
          rw y at a

      inside-kind : (j : ℕ) → p < j → j < p + k → kind v j ≡ 0
      unfolding unpack_links
      inside-kind j l h = go (eq? j (p + k - 1))
        where
          go : (j ≡ p + k - 1) ⊎ (j ≢ p + k - 1) → kind v j ≡ 0
          go (inl y) = rw y (ap (λ (x : Links). x.kind) (plain-links _ _ (last (omega arith))) ∙ omega (arith, tests.3))
          go (inr y) = ap (λ (x : Links). x.kind) (plain-links _ j (inner j l (omega arith)))

      before : (j : ℕ) → p < j → j < p + k → kind v (j - 1) ≤ 1
      before j l h = go (eq? (j - 1) p)
        where
          go : (j - 1 ≡ p) ⊎ (j - 1 ≢ p) → kind v (j - 1) ≤ 1
          go (inl y) = rw (y, first) (omega arith)
          go (inr y) = rw (inside-kind (j - 1) (omega arith) (omega arith)) (omega arith)

      -- after the last page no free page comes
      not-inner : kind_at v n 0 (p + k) ≡ true → 1 < kind v (p + k)
      unfolding kind_at ends_free
      not-inner h = ltb-true 1 (kind v (p + k)) (asked _ _ ends (both_true _ _ h).0)

      no_more : kind_at v n 0 (p + k) ≡ true → (x y : ℕ) → x ≡ y
      unfolding kind_at
      no_more h x y = let q : kind v (p + k) ≡ 0 = eqb-true _ 0 (both_true _ _ h).1 in absurd (omega (arith, not-inner h))

      inside-kept : (j : ℕ) → p < j → j < p + k → rule2_at v n j ≡ true
      unfolding unpack_links
      inside-kept j l h = go (eq? j (p + k - 1))
        where
          go : (j ≡ p + k - 1) ⊎ (j ≢ p + k - 1) → rule2_at v n j ≡ true
          go (inl y) =
              let a : plain_at w s (2198989701120 + 512 * p) j ≡ true = rw y (last (omega arith)) in
              let d = plain-links _ j a in
              let c : class v j ≡ 0 = ap (λ (x : Links). x.class) d ∙ omega (arith, tests.3) in
              let r : run v j ≡ 0 = ap (λ (x : Links). x.run) d ∙ omega (arith, tests.3) in
              let f : next v j ≡ no_page = ap (λ (x : Links). x.next.0) d ∙ omega (arith, tests.3) in
              let q : j + 1 ≡ p + k = omega arith in
              kept_0 v n j (plain-spare _ j a ∙ omega arith) (inside-kind j l h)
              (inside_free_lem v n j c r (plain_map _ j a) f (omega arith) (before j l h) (λ m. no_more (rw q at m) _ _))
          go (inr y) =
              let a = inner j l (omega arith) in
              let d = plain-links _ j a in
              let c : class v j ≡ 0 = ap (λ (x : Links). x.class) d in
              let r : run v j ≡ 0 = ap (λ (x : Links). x.run) d in
              let f : next v j ≡ no_page = ap (λ (x : Links). x.next.0) d in
              let b : prev v j ≡ no_page = ap (λ (x : Links). x.prev.0) d in
              kept_0 v n j (plain-spare _ j a) (inside-kind j l h) (inside_free_lem v n j c r (plain_map _ j a) f (omega arith) (before j l h) (λ m. b))

      fits : run_fits v n p k 0 ≡ true
      unfolding run_fits kind_from
      fits =
          all_of_lem _ (lt-ltb 0 k tests.2 & le-leb (p + k) n tests.3
          & at_all _ (k - 1) (λ i l. eq-eqb _ 0 (inside-kind (p + 1 + i) (omega arith) (omega arith))) & tt)

      back : last_back v p k ≡ true
      unfolding last_back unpack_links
      back =
          if_asked _ _ (λ h.
          eq-eqb _ p (ap (λ (x : Links). x.prev.0) (plain-links _ _ (last (ltb-true 1 k h))) ∙ omega (arith, tests.3, tests.2)))

      first-kept : rule2_at v n p ≡ true
      unfolding first_free free_run
      first-kept = kept_1 v n p z first (all_of_lem _ (eq-eqb _ 0 tests.0 & eq-eqb _ 0 tests.1 & fits & ends & tt)) back

      pub free-kept : Kept v n p k 0
      free-kept = record {
        some = tests.2;
        within = tests.3;
        first = first-kept;
        rest = λ j l h. (inside-kept j l h, inside-kind j l h);
      }

      -- and no page after it is inside a run
      pub free-ends : ends_free v n (p + k) ≡ true
      free-ends = ends

    module _ (B : Bytes s) (h : p < n) (all : (j : ℕ) → j < n → rule2_at v n j ≡ true) where
      says : (class v p ≡ 0) × (map v p ≡ 0) × (run_fits v n p k 0 ≡ true) × (ends_free v n (p + k) ≡ true) × (1 < k → prev v (p + k - 1) ≡ p)
      unfolding first_free free_run last_back
      says =
          let a = at_1 v n p first (all p h) in
          let x = each_of _ a.0 in
          (eqb-true _ _ x.0, eqb-true _ _ x.1.0, x.1.1.0, x.1.1.1.0, λ l. eqb-true _ _ (asked _ _ a.1 (lt-ltb 1 k l)))

      fit : (0 < k) × (p + k ≤ n) × ((j : ℕ) → p < j → j < p + k → kind v j ≡ 0)
      fit = fits-says v n p k 0 says.2

      -- a page after the first, by its previous
      must_plain : (j q x : ℕ) → p < j → j < p + k → prev v j ≡ q → pack_links (links 0 0 0 no_page q) ≡ x → plain_at w s x j ≡ true
      must_plain j q x l b e y =
          let r = all j (omega (arith, fit.1)) in
          let i = inside_free-says v n j (at_0 v n j (fit.2 j l b) r) in
          told-plain B x j _ (links_are _ _ _ _ _ _ (fit.2 j l b) i.0 i.1 i.3 e) (spare-none v n j r) i.2 y

      must_last : last_plain w s p k ≡ true
      unfolding last_plain pack_links
      must_last = if_asked _ _ (λ m. let l = ltb-true 1 k m in must_plain (p + k - 1) p _ (omega arith) (omega arith) (says.4 l) (omega arith))

      must_inner : plain_from w s 2199023255040 (p + 1) (k - 2) ≡ true
      unfolding plain_from pack_links
      must_inner =
          at_all _ (k - 2) (λ i l.
          must_plain (p + 1 + i) no_page _ (omega arith) (omega arith)
          ((inside_free-says v n (p + 1 + i) (at_0 v n (p + 1 + i) (fit.2 (p + 1 + i) (omega arith) (omega arith)) (all (p + 1 + i) (omega (arith, fit.1))))).6
          (omega (arith, fit.1)) (fit.2 (p + 1 + i + 1) (omega arith) (omega arith))) refl)

      pub free_must : free_whole w s n p (v.image.links p) ≡ true
      unfolding free_whole free_rest free_inside
      free_must =
          pick-both _ _ (must_begin n p _ says.0 says.1 fit.0 fit.1) (pick-both _ _ says.3 (pick-both _ _ must_last must_inner))

  -- ---- a taken run

  module _ (n p : ℕ) (few : n ≤ no_page) (z : v.spare p ≡ 0) (first : kind v p ≡ 3) where
    module _ (e : taken_whole w s n p (v.image.links p) ≡ true) where
      taken_tests : (class v p ≡ 0) × (map v p ≡ 0) × (next v p ≡ no_page) × (prev v p ≡ no_page) × (0 < run v p) × (p + run v p ≤ n)
      unfolding taken_whole
      taken_tests =
          let a = each_of _ (both_true _ _ e).0 in
          let b = begins-says n p _ a.0 in
          (b.0, b.1, eqb-true _ _ a.1.0, eqb-true _ _ a.1.1.0, b.2, b.3)

      pub taken-ends : ends_taken v n (p + run v p) ≡ true
      unfolding taken_whole taken_rest
      taken-ends = (both_true _ _ (both_true _ _ e).1).0

      taken-plain : (j : ℕ) → p < j → j < p + run v p → plain_at w s 9223374235878030848 j ≡ true
      unfolding taken_whole taken_rest plain_from
      taken-plain j l h =
          let a = all-at _ (run v p - 1) (both_true _ _ (both_true _ _ e).1).1 (j - (p + 1)) (omega arith) in
          let y : p + 1 + (j - (p + 1)) ≡ j = omega arith in
          rw y at a

      taken-kind : (j : ℕ) → p < j → j < p + run v p → kind v j ≡ 4
      unfolding unpack_links
      taken-kind j l h = ap (λ (x : Links). x.kind) (plain-links _ j (taken-plain j l h))

      taken-before : (j : ℕ) → p < j → j < p + run v p → 2 < kind v (j - 1)
      taken-before j l h = go (eq? (j - 1) p)
        where
          go : (j - 1 ≡ p) ⊎ (j - 1 ≢ p) → 2 < kind v (j - 1)
          go (inl y) = rw (y, first) (omega arith)
          go (inr y) = rw (taken-kind (j - 1) (omega arith) (omega arith)) (omega arith)

      taken-inside : (j : ℕ) → p < j → j < p + run v p → rule2_at v n j ≡ true
      unfolding unpack_links
      taken-inside j l h =
          let a = taken-plain j l h in
          let d = plain-links _ j a in
          let c : class v j ≡ 0 = ap (λ (x : Links). x.class) d in
          let r : run v j ≡ 0 = ap (λ (x : Links). x.run) d in
          let f : next v j ≡ no_page = ap (λ (x : Links). x.next.0) d in
          let b : prev v j ≡ no_page = ap (λ (x : Links). x.prev.0) d in
          kept_4 v n j (plain-spare _ j a) (taken-kind j l h) (inside_taken_lem v n j c r (plain_map _ j a) f b (omega arith) (taken-before j l h))

      taken-fits : run_fits v n p (run v p) 4 ≡ true
      unfolding run_fits kind_from
      taken-fits =
          all_of_lem _ (lt-ltb 0 (run v p) taken_tests.4 & le-leb (p + run v p) n taken_tests.5
          & at_all _ (run v p - 1) (λ i l. eq-eqb _ 4 (taken-kind (p + 1 + i) (omega arith) (omega arith))) & tt)

      taken-first : rule2_at v n p ≡ true
      unfolding first_taken taken_run
      taken-first =
          let t = taken_tests in
          kept_3 v n p z first (all_of_lem _ (eq-eqb _ 0 t.0 & eq-eqb _ 0 t.1 & taken-fits & taken-ends & tt)) (no_links_lem v n p t.2 t.3)

      pub taken-kept : Kept v n p (run v p) 4
      taken-kept = record {
        some = taken_tests.4;
        within = taken_tests.5;
        first = taken-first;
        rest = λ j l h. (taken-inside j l h, taken-kind j l h);
      }

    module _ (B : Bytes s) (h : p < n) (all : (j : ℕ) → j < n → rule2_at v n j ≡ true) where
      taken-says : (class v p ≡ 0) × (map v p ≡ 0) × (next v p ≡ no_page) × (prev v p ≡ no_page) × (run_fits v n p (run v p) 4 ≡ true) × (ends_taken v n (p + run v p) ≡ true)
      unfolding first_taken taken_run
      taken-says =
          let a = at_3 v n p first (all p h) in
          let x = each_of _ a.0 in
          let y = no_links-says v n p a.1 in
          (eqb-true _ _ x.0, eqb-true _ _ x.1.0, y.0, y.1, x.1.1.0, x.1.1.1.0)

      taken-fit : (0 < run v p) × (p + run v p ≤ n) × ((j : ℕ) → p < j → j < p + run v p → kind v j ≡ 4)
      taken-fit = fits-says v n p (run v p) 4 taken-says.4

      must_taken : plain_from w s 9223374235878030848 (p + 1) (run v p - 1) ≡ true
      unfolding plain_from pack_links
      must_taken =
          at_all _ (run v p - 1) (λ i l.
          let j : ℕ = p + 1 + i in
          let k = taken-fit.2 j (omega arith) (omega arith) in
          let r = all j (omega (arith, taken-fit.1)) in
          let x = inside_taken-says v n j (at_4 v n j k r) in
          told-plain B _ j _ (links_are _ 4 0 0 no_page no_page k x.0 x.1 x.3 x.4) (spare-none v n j r) x.2 refl)

      pub taken_must : taken_whole w s n p (v.image.links p) ≡ true
      unfolding taken_whole taken_rest
      taken_must =
          let t = taken-says in
          pick-both _ _ (all_of_lem _ (must_begin n p _ t.0 t.1 taken-fit.0 taken-fit.1 & eq-eqb _ no_page t.2 & eq-eqb _ no_page t.3 & tt))
          (pick-both _ _ t.5 must_taken)

-- ---- where a run may begin

pub border-start : (v : Fields) (n : ℕ) → Border v n 0
border-start v n e =
    (λ k. let x = (inside_free-says v n 0 (at_0 v n 0 k e)).4 in omega arith, λ k. let x = (inside_taken-says v n 0 (at_4 v n 0 k e)).5 in omega arith)

module _ (v : Fields) (n p r : ℕ) (e : r - 1 ≡ p) where
  -- after a page that is free, and after one that is not
  after_free : kind v p ≤ 1 → rule2_at v n r ≡ true → kind v r ≢ 4
  after_free h a k = let x : 2 < kind v p = rw e at (inside_taken-says v n r (at_4 v n r k a)).6 in omega arith

  after-used : 1 < kind v p → rule2_at v n r ≡ true → kind v r ≢ 0
  after-used h a k = let x : kind v p ≤ 1 = rw e at (inside_free-says v n r (at_0 v n r k a)).5 in omega arith

pub border-class : (v : Fields) (n p : ℕ) → kind v p ≡ 2 → Border v n (p + 1)
border-class v n p k e = (
  after-used v n p (p + 1) (omega arith) (omega arith) e,
  λ f. let x : 2 < kind v (p + 1 - 1) = (inside_taken-says v n (p + 1) (at_4 v n (p + 1) f e)).6 in let y : p + 1 - 1 ≡ p = omega arith in absurd (omega (arith, ap (kind v) y)),
)

module _ (v : Fields) (n p k : ℕ) where
  last_kind : (a b : ℕ) → Kept v n p k a → kind v p ≡ b → (kind v (p + k - 1) ≡ a) ⊎ (kind v (p + k - 1) ≡ b)
  last_kind a b K f = go (eq? (p + k - 1) p)
    where
      go : (p + k - 1 ≡ p) ⊎ (p + k - 1 ≢ p) → (kind v (p + k - 1) ≡ a) ⊎ (kind v (p + k - 1) ≡ b)
      go (inl y) = inr (rw y f)
      go (inr y) = inl (K.rest (p + k - 1) (omega (arith, K.some)) (omega (arith, K.some))).1

  pub border-free : Kept v n p k 0 → kind v p ≡ 1 → ends_free v n (p + k) ≡ true → p + k < n → Border v n (p + k)
  unfolding ends_free
  border-free K f ends h e = (
    λ z. let x = ltb-true 1 (kind v (p + k)) (asked _ _ ends (lt-ltb (p + k) n h)) in omega arith,
    after_free v n (p + k - 1) (p + k) refl (⊎_elim (λ (x : kind v (p + k - 1) ≡ 0). omega arith) (λ (x : kind v (p + k - 1) ≡ 1). omega arith) (last_kind 0 1 K f)) e,
  )

  pub border-taken : Kept v n p k 4 → kind v p ≡ 3 → ends_taken v n (p + k) ≡ true → p + k < n → Border v n (p + k)
  unfolding ends_taken
  border-taken K f ends h e = (
    after-used v n (p + k - 1) (p + k) refl (⊎_elim (λ (x : kind v (p + k - 1) ≡ 4). omega arith) (λ (x : kind v (p + k - 1) ≡ 3). omega arith) (last_kind 4 3 K f)) e,
    eqb-false _ _ (not-true _ (asked _ _ ends (lt-ltb (p + k) n h))),
  )
