-- From a page to the one after its run, and what the run adds to the counters.
use Rattle.std.proofs.Common.{◌≡◌, ℕ, zero, suc, ◌+◌, ◌-◌, ◌%◌, ◌^◌, ◌<◌, ◌≤◌, Bool, true, false, ◌≢◌, ◌⊎◌, List, length, get_or, set, sym, refl, ap, ◌∙◌, inl, inr, arith, get_or-set_same, set-set, eqb-true}
use Rattle.base.specs.Tests.{pick, all_below}
use Rattle.base.proofs.Tests.{both_true}
use Rattle.base.proofs.Cases.{clash, decided, eq?, lt?}
use Rattle.base.proofs.AllBelow.{all-at, at_all}
use Rattle.words.specs.Word.{Bytes, word}
use Rattle.records.specs.Layout.{links_place}
use Rattle.records.specs.Page.{unpack_links, links_at}
use Rattle.records.specs.declared.Links.{Links}
use Rattle.rules.specs.Fields.{Fields, kind, run}
use Rattle.rules.specs.Rules.{inside_free, first_free, class_page, first_taken, inside_taken, by_kind, shape_at, links_fit_at, rule2_at, rule2}
use Rattle.rules.specs.Bytes.{pages_in, image_of, fields_of}
use Rattle.validate_runs.specs.Mirror.{free_whole, taken_whole, Kept, Border}
use Rattle.validate_runs.proofs.Whole.{free-kept, free-ends, free_must, taken-kept, taken-ends, taken_must, border-free, border-taken, border-class}
use Rattle.validate_pages.specs.Mirror.{Here, Steps, ones_at, add_at, class_added, page_added}
use Rattle.validate_pages.proofs.Steps.{added_inside, added_first, added_class, added_none}
use Rattle.validate_pages.proofs.Pass.{Passed, pass_more, slab_of}

-- ---- the loop

pub all_steps : (v : Fields) (n p r : ℕ) (t t' : List ℕ) → Steps v n p r t t' → all_below (rule2_at v n) p ≡ true → all_below (rule2_at v n) r ≡ true
all_steps v n p r t t' S a = at_all (rule2_at v n) r (λ j h. go j h (lt? j p))
  where
    go : (j : ℕ) → j < r → (j < p) ⊎ (p ≤ j) → rule2_at v n j ≡ true
    go j h (inl l) = all-at (rule2_at v n) p a j l
    go j h (inr l) = S.keeps j l h

pub pass_steps : (v : Fields) (n p r : ℕ) (t t' : List ℕ) → Steps v n p r t t' → p < r → Passed v n p t → Passed v n r t'
pass_steps v n p r t t' S h K = let c = S.counts h K.len K.counted in record { len = c.0; counted = c.1 }

-- ---- the code stays where rule 2 is broken

stays : (v : Fields) (n p : ℕ) (t t' : List ℕ) → p < n → (rule2 v n ≡ true → ⊥) → Steps v n p p t t'
stays v n p t t' h broken = record {
  low = omega arith;
  high = omega arith;
  stops = λ z. decided (rule2 v n) broken;
  keeps = λ j l k. absurd (omega arith);
  border = λ l. absurd (omega arith);
  counts = λ l. absurd (omega arith);
}

each : (v : Fields) (n : ℕ) → rule2 v n ≡ true → (j : ℕ) → j < n → rule2_at v n j ≡ true
unfolding rule2
each v n e = all-at (rule2_at v n) n e

shaped : (v : Fields) (n p : ℕ) → rule2_at v n p ≡ true → shape_at v n p ≡ true
unfolding rule2_at
shaped v n p e = (both_true _ _ e).0

by_kind_lem : (v : Fields) (n p : ℕ) → rule2_at v n p ≡ true → by_kind (kind v p) (inside_free v p) (first_free v n p) (class_page v p) (first_taken v n p) (inside_taken v p) ≡ true
unfolding shape_at
by_kind_lem v n p e = shaped v n p e

-- by the word v of the page's links
module _ (w : ℕ) (s : List ℕ) (n p x : ℕ) (h : p < n) (e : x ≡ word s (links_place w p)) where
  pub stays-spare : (t t' : List ℕ) → x % 512 ≢ 0 → Steps (fields_of w s) n p p t t'
  unfolding rule2_at links_fit_at fields_of
  stays-spare t t' d =
      stays (fields_of w s) n p t t' h (λ a. d (ap (λ (y : ℕ). y % 512) e ∙ eqb-true _ 0 (both_true _ _ (both_true _ _ (each (fields_of w s) n a p h)).1).0))

  pub here : n ≡ pages_in w s → n ≤ 4096 → x % 512 ≡ 0 → Here w s n p (unpack_links x)
  here a b z = record { pages = a; few = b; below = h; is = links-is; plain = spare-is z }
    where
      links-is : unpack_links x ≡ (fields_of w s).image.links p
      links-is = unfold fields_of image_of links_at in ap unpack_links e

      spare-is : x % 512 ≡ 0 → (fields_of w s).spare p ≡ 0
      spare-is z = unfold fields_of in (ap (λ (y : ℕ). y % 512) (sym e) ∙ z)

module _ {w : ℕ} {s : List ℕ} {n p : ℕ} {l : Links} (H : Here w s n p l) where
  abbrev v : Fields
  v = fields_of w s

  is-kind : (k : ℕ) → l.kind ≡ k → kind v p ≡ k
  is-kind k e = ap (λ (x : Links). x.kind) (sym H.is) ∙ e

  -- a page that begins neither a run nor a class page
  pub stays-kind : (t t' : List ℕ) → Border v n p → l.kind ≢ 1 → l.kind ≢ 2 → l.kind ≢ 3 → Steps v n p p t t'
  stays-kind t t' b x y z = stays v n p t t' H.below (λ a. go l.kind refl x y z (each v n a p H.below))
    where
      go : (k : ℕ) → l.kind ≡ k → k ≢ 1 → k ≢ 2 → k ≢ 3 → rule2_at v n p ≡ true → ⊥
      go zero e x y z a = (b a).0 (is-kind 0 e)
      go (suc zero) e x y z a = x refl
      go (suc (suc zero)) e x y z a = y refl
      go (suc (suc (suc zero))) e x y z a = z refl
      go (suc (suc (suc (suc zero)))) e x y z a = (b a).1 (is-kind 4 e)
      go (suc (suc (suc (suc (suc k))))) e x y z a = clash (rw (is-kind _ e) at (by_kind_lem v n p a)) refl

  -- ---- the counters of a run

  module _ (B : Bytes s) (t : List ℕ) where
    more : (q : ℕ) (x x' : List ℕ) → q < n → rule2_at v n q ≡ true → Passed v n q x → x' ≡ page_added w s x q (v.image.links q) → Passed v n (q + 1) x'
    more q x x' h a K d = pass_more w s n q B H.pages H.few h true (sym (shaped v n q a)) refl x x' _ K refl d

    add_at_twice : (a b : ℕ) → length t ≡ 11 → add_at t 9 (a + b) ≡ add_at (add_at t 9 a) 9 b
    unfolding add_at
    add_at_twice a b len =
        let g : get_or (set t 9 ((get_or t 9 0 + a) % 2 ^ 64)) 9 0 ≡ (get_or t 9 0 + a) % 2 ^ 64 = get_or-set_same t 9 _ 0 (omega arith) in
        let e : (get_or t 9 0 + (a + b)) % 2 ^ 64 ≡ ((get_or t 9 0 + a) % 2 ^ 64 + b) % 2 ^ 64 = omega arith in
        rw (g, e) (sym (set-set t 9 _ _))

    free_passed : (k : ℕ) → Kept v n p k 0 → kind v p ≡ 1 → Passed v n p t → (m : ℕ) → suc m ≤ k → Passed v n (p + suc m) (add_at t 9 (4294967296 + suc m))
    free_passed k F f K zero h = more p t _ H.below F.first K (added_first w s t _ p _ f refl)
    free_passed k F f K (suc m) h =
        let q = F.rest (p + suc m) (omega arith) (omega arith) in
        let e : p + suc (suc m) ≡ p + suc m + 1 = omega arith in
        let d : 4294967296 + suc (suc m) ≡ 4294967296 + suc m + 1 = omega arith in
        rw (e, d)
        (more (p + suc m) (add_at t 9 (4294967296 + suc m)) _ (omega (arith, F.within)) q.0 (free_passed k F f K m (omega arith))
        (add_at_twice (4294967296 + suc m) 1 K.len ∙ added_inside w s (add_at t 9 (4294967296 + suc m)) _ (p + suc m) _ q.1 refl))

    taken_passed : (k : ℕ) → Kept v n p k 4 → kind v p ≡ 3 → Passed v n p t → (m : ℕ) → suc m ≤ k → Passed v n (p + suc m) t
    taken_passed k F f K zero h =
        more p t t H.below F.first K (added_none w s t p _ (λ z. omega (arith, f)) (λ z. omega (arith, f)) (λ z. omega (arith, f)))
    taken_passed k F f K (suc m) h =
        let q = F.rest (p + suc m) (omega arith) (omega arith) in
        let e : p + suc (suc m) ≡ p + suc m + 1 = omega arith in
        rw e
        (more (p + suc m) t t (omega (arith, F.within)) q.0 (taken_passed k F f K m (omega arith))
        (added_none w s t (p + suc m) _ (λ z. omega (arith, q.1)) (λ z. omega (arith, q.1)) (λ z. omega (arith, q.1))))

    run_steps : (k inner : ℕ) (t' : List ℕ) → Kept v n p k inner → (p + k < n → Border v n (p + k)) → (Passed v n p t → Passed v n (p + k) t') → Steps v n p (p + k) t t'
    run_steps k inner t' F b c = record {
      low = omega arith;
      high = F.within;
      stops = λ z. absurd (omega (arith, F.some));
      keeps = λ j l h. go j l h (eq? j p);
      border = λ l h. b h;
      counts = λ l len d. let K = c (record { len = len; counted = d }) in (K.len, K.counted);
    }
      where
        go : (j : ℕ) → p ≤ j → j < p + k → (j ≡ p) ⊎ (j ≢ p) → rule2_at v n j ≡ true
        go j l h (inl e) = rw e F.first
        go j l h (inr e) = (F.rest j (omega arith) h).0

    -- ---- a free run, a taken run, a class page

    module _ (u : Bool) where
      pub free_stays : (t' : List ℕ) → l.kind ≡ 1 → u ≡ free_whole w s n p l → u ≡ false → Steps v n p p t t'
      free_stays t' k e o =
          stays v n p t t' H.below (λ a.
          clash (free_must w s n p (omega (arith, H.few)) H.plain (is-kind 1 k) B H.below (each v n a)) (rw (← H.is) (sym e ∙ o)))

      pub free_steps : (t' : List ℕ) → l.kind ≡ 1 → u ≡ free_whole w s n p l → u ≡ true → t' ≡ add_at t 9 (4294967296 + l.run) → Steps v n p (p + l.run) t t'
      free_steps t' k e o d =
          let a : free_whole w s n p (v.image.links p) ≡ true = rw (← H.is) (sym e ∙ o) in
          let F = free-kept w s n p (omega (arith, H.few)) H.plain (is-kind 1 k) a in
          let f = run_steps (run v p) 0 (add_at t 9 (4294967296 + run v p)) F
          (border-free v n p (run v p) F (is-kind 1 k) (free-ends w s n p (omega (arith, H.few)) H.plain (is-kind 1 k) a))
          (λ K. let z : suc (run v p - 1) ≡ run v p = omega (arith, F.some) in rw z at (free_passed (run v p) F (is-kind 1 k) K (run v p - 1) (omega (arith, F.some)))) in
          rw (d, H.is) f

      pub taken-stays : (t' : List ℕ) → l.kind ≡ 3 → u ≡ taken_whole w s n p l → u ≡ false → Steps v n p p t t'
      taken-stays t' k e o =
          stays v n p t t' H.below (λ a.
          clash (taken_must w s n p (omega (arith, H.few)) H.plain (is-kind 3 k) B H.below (each v n a)) (rw (← H.is) (sym e ∙ o)))

      pub taken_steps : l.kind ≡ 3 → u ≡ taken_whole w s n p l → u ≡ true → Steps v n p (p + l.run) t t
      taken_steps k e o =
          let a : taken_whole w s n p (v.image.links p) ≡ true = rw (← H.is) (sym e ∙ o) in
          let F = taken-kept w s n p (omega (arith, H.few)) H.plain (is-kind 3 k) a in
          let f = run_steps (run v p) 4 t F
          (border-taken v n p (run v p) F (is-kind 3 k) (taken-ends w s n p (omega (arith, H.few)) H.plain (is-kind 3 k) a))
          (λ K. let z : suc (run v p - 1) ≡ run v p = omega (arith, F.some) in rw z at (taken_passed (run v p) F (is-kind 3 k) K (run v p - 1) (omega (arith, F.some)))) in
          rw H.is f

      class-kept : l.kind ≡ 2 → u ≡ class_page v p → u ≡ true → rule2_at v n p ≡ true
      unfolding rule2_at shape_at links_fit_at pick
      class-kept k e o = rw (H.plain, is-kind 2 k, sym e ∙ o)

      pub class_in : u ≡ class_page v p → u ≡ true → l.class ≤ 8
      class_in e o = rw H.is (slab_of w s p (sym e ∙ o)).in_range

      pub class-stays : (t' : List ℕ) → l.kind ≡ 2 → u ≡ class_page v p → u ≡ false → Steps v n p p t t'
      class-stays t' k e o =
          stays v n p t t' H.below (λ a. clash (rw (is-kind 2 k) at (by_kind_lem v n p (each v n a p H.below))) (sym e ∙ o))

      pub class_steps : (t' : List ℕ) → l.kind ≡ 2 → u ≡ class_page v p → u ≡ true
          → t' ≡ class_added t l.class (ones_at w s p l.class) l → Steps v n p (p + 1) t t'
      class_steps t' k e o d =
          let F : Kept v n p 1 0 = record { some = omega arith; within = omega (arith, H.below); first = class-kept k e o; rest = λ j a b. absurd (omega arith) } in
          run_steps 1 0 t' F (λ h. border-class v n p (is-kind 2 k))
          (λ K. more p t t' H.below F.first K (rw H.is at (added_class w s t t' p l k d)))
