-- The shape of pages (rule 2) as a test and in plain form.
use mathlib.Core.Path.{◌≡◌, refl, sym, ap, ◌∙◌, subst}
use mathlib.Core.Logic.{◌⊎◌, inl, inr, ◌≢◌, ◌↔◌}
use mathlib.Core.Bool.{Bool, true, not, false≢true}
use Prim.Native.Nat.{ℕ, zero, suc, ◌+◌, ◌-◌, ◌≤◌, ◌<◌}
use native.Mathlib.Omega.{arith}
use borrow.Author.Tests.{eqb-true, eqb-false, eq-eqb, ne_eqb, ltb-true, leb-true, lt-ltb, le-ltb, le-leb, not-true}
use Rattle.base.proofs.Cases.{eq?, lt?}
use Rattle.base.proofs.AllBelow.{◌&◌, pick_yes, pick_no, asked, if_asked, each_of, all_of_lem, all-at, at_all}
use Rattle.model.specs.Classes.{own}
use Rattle.rules.specs.Fields.{Fields, kind, class, run, map}
use Rattle.rules.specs.Rules.{kind_from, run_fits, inside_free, ends_free, free_run, first_free, map_fits, class_with, class_page, ends_taken, taken_run, first_taken, inside_taken, by_kind, shape_at, shape}
use Rattle.rules.specs.Plain.{RunFits, LiesIn, Inside, First, ClassPage, Shape}

-- ---- runs told by their first pages: each page that follows a page of its run lies in the run
module _ (v : Fields) (n head inner : ℕ)
    (fits : (p : ℕ) → p < n → kind v p ≡ head → RunFits v n inner p)
    (stops : (p : ℕ) → p < n → kind v p ≡ head → p + run v p < n → kind v (p + run v p) ≢ inner)
    (after : (j : ℕ) → j < n → kind v j ≡ inner → (1 ≤ j) × ((kind v (j - 1) ≡ head) ⊎ (kind v (j - 1) ≡ inner))) where
  lies : (j : ℕ) → j < n → kind v j ≡ inner → LiesIn v n head j
  unfolding LiesIn
  lies zero h e = absurd (omega (arith, (after zero h e).0))
  lies (suc i) h e =
      let y : suc i - 1 ≡ i = omega arith in
      go (subst (λ (q : ℕ). (kind v q ≡ head) ⊎ (kind v q ≡ inner)) y (after (suc i) h e).1) (lies i (omega arith))
    where
      -- the run does not end with page i
      grow : (q : ℕ) → q < n → kind v q ≡ head → q ≤ i → i < q + run v q → (q : ℕ) × (q < n) × (kind v q ≡ head) × (q < suc i) × (suc i < q + run v q)
      grow q l k a b = side (eq? (suc i) (q + run v q))
        where
          side : (suc i ≡ q + run v q) ⊎ (suc i ≢ q + run v q) → (q : ℕ) × (q < n) × (kind v q ≡ head) × (q < suc i) × (suc i < q + run v q)
          side (inl x) = absurd (stops q l k (omega arith) (sym (ap (kind v) x) ∙ e))
          side (inr x) = (q, l, k, omega arith, omega arith)

      go : (kind v i ≡ head) ⊎ (kind v i ≡ inner) → (kind v i ≡ inner → (q : ℕ) × (q < n) × (kind v q ≡ head) × (q < i) × (i < q + run v q)) →
          (q : ℕ) × (q < n) × (kind v q ≡ head) × (q < suc i) × (suc i < q + run v q)
      go (inl k) ih = let F = fits i (omega arith) k in grow i (omega arith) k (omega arith) (omega (arith, F.some-page))
      go (inr k) ih = let (q, l, d, a, b) = ih k in grow q l d (omega arith) b

pub two : (k : ℕ) → k ≤ 1 → (k ≡ 1) ⊎ (k ≡ 0)
two zero h = inr refl
two (suc zero) h = inl refl
two (suc (suc k)) h = absurd (omega arith)

three : (k : ℕ) → 2 < k → k ≤ 4 → (k ≡ 3) ⊎ (k ≡ 4)
three (suc (suc (suc zero))) h l = inl refl
three (suc (suc (suc (suc zero)))) h l = inr refl
three (suc (suc (suc (suc (suc k))))) h l = absurd (omega arith)
three zero h l = absurd (omega arith)
three (suc zero) h l = absurd (omega arith)
three (suc (suc zero)) h l = absurd (omega arith)

module _ (v : Fields) (n : ℕ) where
  -- ---- from the tests
  fits-says : (p inner : ℕ) → run_fits v n p (run v p) inner ≡ true → RunFits v n inner p
  unfolding run_fits kind_from
  fits-says p inner e =
      let (some, (within, (each, _))) = each_of _ e in
      record {
        some-page = ltb-true _ _ some;
        within = leb-true _ _ within;
        each = λ j a b.
            let z : p + 1 + (j - p - 1) ≡ j = omega arith in
            subst (λ (q : ℕ). kind v q ≡ inner) z
            (eqb-true _ _ (all-at (kind_from v (p + 1) inner) (run v p - 1) each (j - p - 1) (omega arith)));
      }

  first_free_lem : (p : ℕ) → first_free v n p ≡ true → First v n 0 p × (p + run v p < n → 1 < kind v (p + run v p))
  unfolding first_free free_run ends_free
  first_free_lem p e =
      let (class, (map, (fits, (ends, _)))) = each_of _ e in (
        record { no-class = eqb-true _ _ class; no-map = eqb-true _ _ map; fits = fits-says p 0 fits },
        λ a. ltb-true _ _ (asked _ _ ends (lt-ltb (p + run v p) n a)),
      )

  first_taken_lem : (p : ℕ) → first_taken v n p ≡ true → First v n 4 p × (p + run v p < n → kind v (p + run v p) ≢ 4)
  unfolding first_taken taken_run ends_taken
  first_taken_lem p e =
      let (class, (map, (fits, (ends, _)))) = each_of _ e in (
        record { no-class = eqb-true _ _ class; no-map = eqb-true _ _ map; fits = fits-says p 4 fits },
        λ a. eqb-false _ _ (not-true _ (asked _ _ ends (lt-ltb (p + run v p) n a))),
      )

  class_page_lem : (p : ℕ) → class_page v p ≡ true → ClassPage v p
  unfolding class_page class_with map_fits
  class_page_lem p e =
      let (range, (run, (marks, (map, _)))) = each_of _ e in
      record {
        in_range = leb-true _ _ range;
        no_run = eqb-true _ _ run;
        own-set = all-at (v.mark p) (own (class v p)) marks;
        map-small = λ l. eqb-true _ _ (sym (pick_yes _ _ _ (lt-ltb (class v p) 3 l)) ∙ map);
        map-large = λ l. eqb-true _ _ (sym (pick_no _ _ _ (le-ltb (class v p) 3 l)) ∙ map);
      }

  module _ (e : shape v n ≡ true) where
    at : (p : ℕ) → p < n →
        by_kind (kind v p) (inside_free v p) (first_free v n p) (class_page v p) (first_taken v n p) (inside_taken v p) ≡ true
    unfolding shape shape_at
    at p h = all-at (shape_at v n) n e p h

    some-kind : (k : ℕ) (a b c d f : Bool) → by_kind k a b c d f ≡ true → k ≤ 4
    some-kind zero a b c d f h = omega arith
    some-kind (suc zero) a b c d f h = omega arith
    some-kind (suc (suc zero)) a b c d f h = omega arith
    some-kind (suc (suc (suc zero))) a b c d f h = omega arith
    some-kind (suc (suc (suc (suc zero)))) a b c d f h = omega arith
    some-kind (suc (suc (suc (suc (suc k))))) a b c d f h = absurd (false≢true h)

    kinds : (p : ℕ) → p < n → kind v p ≤ 4
    kinds p h = some-kind (kind v p) _ _ _ _ _ (at p h)

    kind1 : (p : ℕ) → p < n → kind v p ≡ 1 → First v n 0 p × (p + run v p < n → 1 < kind v (p + run v p))
    kind1 p h k = first_free_lem p (rw k at (at p h))

    kind3 : (p : ℕ) → p < n → kind v p ≡ 3 → First v n 4 p × (p + run v p < n → kind v (p + run v p) ≢ 4)
    kind3 p h k = first_taken_lem p (rw k at (at p h))

    kind0 : (p : ℕ) → p < n → kind v p ≡ 0 → Inside v n 1 p
    unfolding inside_free
    kind0 p h k =
        let (class, (run, (map, _))) = each_of _ (inside p h k) in
        record {
          no-class = eqb-true _ _ class;
          no_run = eqb-true _ _ run;
          no-map = eqb-true _ _ map;
          lies = lies v n 1 0 (λ q l d. (kind1 q l d).0.fits) (λ q l d a z. omega (arith, (kind1 q l d).1 a)) after p h k;
        }
      where
        inside : (q : ℕ) → q < n → kind v q ≡ 0 → inside_free v q ≡ true
        inside q l d = rw d at (at q l)

        after : (j : ℕ) → j < n → kind v j ≡ 0 → (1 ≤ j) × ((kind v (j - 1) ≡ 1) ⊎ (kind v (j - 1) ≡ 0))
        after j l d =
            let (_, (_, (_, (some, (free, _))))) = each_of _ (inside j l d) in
            (ltb-true _ _ some, two (kind v (j - 1)) (leb-true _ _ free))

    kind4 : (p : ℕ) → p < n → kind v p ≡ 4 → Inside v n 3 p
    unfolding inside_taken
    kind4 p h k =
        let (class, (run, (map, _))) = each_of _ (inside p h k) in
        record {
          no-class = eqb-true _ _ class;
          no_run = eqb-true _ _ run;
          no-map = eqb-true _ _ map;
          lies = lies v n 3 4 (λ q l d. (kind3 q l d).0.fits) (λ q l d. (kind3 q l d).1) after p h k;
        }
      where
        inside : (q : ℕ) → q < n → kind v q ≡ 4 → inside_taken v q ≡ true
        inside q l d = rw d at (at q l)

        after : (j : ℕ) → j < n → kind v j ≡ 4 → (1 ≤ j) × ((kind v (j - 1) ≡ 3) ⊎ (kind v (j - 1) ≡ 4))
        after j l d =
            let (_, (_, (_, (some, (busy, _))))) = each_of _ (inside j l d) in
            let low : 0 < j = ltb-true _ _ some in
            (low, three (kind v (j - 1)) (ltb-true _ _ busy) (kinds (j - 1) (omega arith)))

    pub shape-says : Shape v n
    shape-says = record {
      kinds = kinds;
      kind0 = kind0;
      kind1 = λ p h k. (kind1 p h k).0;
      apart = λ p h k. (kind1 p h k).1;
      kind2 = λ p h k. class_page_lem p (rw k at (at p h));
      kind3 = λ p h k. (kind3 p h k).0;
      kind4 = kind4;
    }

  -- ---- to the tests
  fits-holds : (p inner : ℕ) → RunFits v n inner p → run_fits v n p (run v p) inner ≡ true
  unfolding run_fits kind_from
  fits-holds p inner F =
      all_of_lem _
      (lt-ltb 0 (run v p) F.some-page & le-leb (p + run v p) n F.within
      & at_all (kind_from v (p + 1) inner) (run v p - 1) (λ i h. eq-eqb (kind v (p + 1 + i)) inner (F.each (p + 1 + i) (omega arith) (omega arith))) & tt)

  module _ (R : Shape v n) where
    -- the run of a page whose first page is q
    between : (q p inner : ℕ) → RunFits v n inner q → q < p → p < q + run v q → (q ≡ p - 1) ⊎ (kind v (p - 1) ≡ inner)
    between q p inner F a b = go (eq? q (p - 1))
      where
        go : (q ≡ p - 1) ⊎ (q ≢ p - 1) → (q ≡ p - 1) ⊎ (kind v (p - 1) ≡ inner)
        go (inl x) = inl x
        go (inr x) = inr (F.each (p - 1) (omega arith) (omega arith))

    free_before : (p : ℕ) → LiesIn v n 1 p → (0 < p) × (kind v (p - 1) ≤ 1)
    unfolding LiesIn
    free_before p (q, l, k, a, b) = (omega arith, go (between q p 0 (R.kind1 q l k).fits a b))
      where
        go : (q ≡ p - 1) ⊎ (kind v (p - 1) ≡ 0) → kind v (p - 1) ≤ 1
        go (inl x) = omega (arith, ap (kind v) x)
        go (inr x) = omega arith

    taken-before : (p : ℕ) → LiesIn v n 3 p → (0 < p) × (2 < kind v (p - 1))
    unfolding LiesIn
    taken-before p (q, l, k, a, b) = (omega arith, go (between q p 4 (R.kind3 q l k).fits a b))
      where
        go : (q ≡ p - 1) ⊎ (kind v (p - 1) ≡ 4) → 2 < kind v (p - 1)
        go (inl x) = omega (arith, ap (kind v) x)
        go (inr x) = omega arith

    -- two taken runs do not overlap, so that the page after one is not inside another
    taken-ends : (p : ℕ) → p < n → kind v p ≡ 3 → p + run v p < n → kind v (p + run v p) ≢ 4
    unfolding LiesIn
    taken-ends p h k l z = go (R.kind4 (p + run v p) l z).lies
      where
        go : (q : ℕ) × (q < n) × (kind v q ≡ 3) × (q < p + run v p) × (p + run v p < q + run v q) → ⊥
        go (q, m, d, a, b) = side (lt? p q) (lt? q p)
          where
            side : (p < q) ⊎ (q ≤ p) → (q < p) ⊎ (p ≤ q) → ⊥
            side (inl x) y = omega (arith, (R.kind3 p h k).fits.each q x a)
            side (inr x) (inl y) = omega (arith, (R.kind3 q m d).fits.each p y (omega arith))
            side (inr x) (inr y) = let e : q ≡ p = omega arith in omega (arith, ap (run v) e)

    holds_at : (p : ℕ) → p < n → (k : ℕ) → kind v p ≡ k →
        by_kind k (inside_free v p) (first_free v n p) (class_page v p) (first_taken v n p) (inside_taken v p) ≡ true
    unfolding inside_free first_free free_run ends_free class_page class_with map_fits first_taken taken_run ends_taken inside_taken
    holds_at p h zero k =
        let I = R.kind0 p h k in
        let (a, b) = free_before p I.lies in
        all_of_lem _
        (eq-eqb _ _ I.no-class & eq-eqb _ _ I.no_run & eq-eqb _ _ I.no-map
        & lt-ltb 0 p a & le-leb (kind v (p - 1)) 1 b & tt)
    holds_at p h (suc zero) k =
        let I = R.kind1 p h k in
        all_of_lem _
        (eq-eqb _ _ I.no-class & eq-eqb _ _ I.no-map & fits-holds p 0 I.fits
        & if_asked _ _ (λ t. lt-ltb 1 (kind v (p + run v p)) (R.apart p h k (ltb-true _ _ t))) & tt)
    holds_at p h (suc (suc zero)) k =
        let I = R.kind2 p h k in
        all_of_lem _
        (le-leb (class v p) 8 I.in_range & eq-eqb _ _ I.no_run & at_all (v.mark p) (own (class v p)) I.own-set
        & maps I (lt? (class v p) 3) & tt)
      where
        maps : ClassPage v p → (class v p < 3) ⊎ (3 ≤ class v p) → map_fits (map v p) (class v p) ≡ true
        maps I (inl l) = pick_yes _ _ _ (lt-ltb (class v p) 3 l) ∙ eq-eqb _ _ (I.map-small l)
        maps I (inr l) = pick_no _ _ _ (le-ltb (class v p) 3 l) ∙ eq-eqb _ _ (I.map-large l)
    holds_at p h (suc (suc (suc zero))) k =
        let I = R.kind3 p h k in
        all_of_lem _
        (eq-eqb _ _ I.no-class & eq-eqb _ _ I.no-map & fits-holds p 4 I.fits
        & if_asked _ _ (λ t. ap not (ne_eqb _ _ (taken-ends p h k (ltb-true _ _ t)))) & tt)
    holds_at p h (suc (suc (suc (suc zero)))) k =
        let I = R.kind4 p h k in
        let (a, b) = taken-before p I.lies in
        all_of_lem _
        (eq-eqb _ _ I.no-class & eq-eqb _ _ I.no_run & eq-eqb _ _ I.no-map
        & lt-ltb 0 p a & lt-ltb 2 (kind v (p - 1)) b & tt)
    holds_at p h (suc (suc (suc (suc (suc k))))) e = absurd (omega (arith, R.kinds p h))

    pub says-shape : shape v n ≡ true
    unfolding shape shape_at
    says-shape = at_all (shape_at v n) n (λ p h. holds_at p h (kind v p) refl)

  pub shape_iff : (shape v n ≡ true) ↔ Shape v n
  shape_iff = (shape-says, says-shape)

module _ (v : Fields) (n : ℕ) (R : Shape v n) where
  -- a free page lies in a free run
  pub free_run_lem : (p : ℕ) → p < n → kind v p ≤ 1 → (q : ℕ) × (q < n) × (kind v q ≡ 1) × (q ≤ p) × (p < q + run v q)
  unfolding LiesIn
  free_run_lem p h k = go (two (kind v p) k)
    where
      go : (kind v p ≡ 1) ⊎ (kind v p ≡ 0) → (q : ℕ) × (q < n) × (kind v q ≡ 1) × (q ≤ p) × (p < q + run v q)
      go (inl e) = (p, h, e, omega arith, omega (arith, (R.kind1 p h e).fits.some-page))
      go (inr e) = let (q, l, d, a, b) = (R.kind0 p h e).lies in (q, l, d, omega arith, b)
