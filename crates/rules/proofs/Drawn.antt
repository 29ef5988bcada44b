-- Sound fields are those that their state determines.
use mathlib.Core.Path.{◌≡◌, refl, sym, ap, ◌∙◌, subst}
use mathlib.Core.Logic.{◌⊎◌, inl, inr, ◌≢◌}
use mathlib.Core.Bool.{true, false}
use mathlib.Core.List.{List, [], ◌∷◌}
use Prim.Native.Nat.{ℕ, zero, suc, ◌+◌, ◌-◌, ◌≤◌, ◌<◌}
use native.Mathlib.Omega.{arith}
use lib.Dec.{ltb}
use borrow.Author.Tests.{eq-eqb, ne_eqb, lt-ltb, le-ltb}
use Rattle.image.specs.Image.{Same}
use Rattle.base.specs.Tests.{pick}
use Rattle.base.specs.Lists.{Mem}
use Rattle.base.specs.Links.{head_or, next_in, prev_from}
use Rattle.base.proofs.Cases.{eq?, lt?, bool?, clash}
use Rattle.base.proofs.AllBelow.{pick_yes, pick_no}
use Rattle.records.specs.Layout.{no_page}
use Rattle.records.specs.declared.Links.{Links}
use Rattle.model.specs.State.{Page, Run, marks_of}
use Rattle.model.specs.Runs.{starts_at, ends_at}
use Rattle.model.specs.View.{used_of, shown}
use Rattle.maps.specs.Bitmap.{bits_of}
use Rattle.rules.specs.Fields.{Fields, kind, class, run, next, prev, map, first, page_at}
use Rattle.rules.specs.Read.{open_at, heads_of, list_of, with_lengths, tally_in, tally_of, read_fields}
use Rattle.rules.specs.Plain.{ClassPage, Shape, LinksHold, Lists, Head, Open}
use Rattle.rules.specs.Agree.{Agree, Holds, Bounds}
use Rattle.rules.specs.Drawn.{starts, links, on_list, back_link, free_links, page_links, map_of, class_record, state_image, state_fields}
use Rattle.rules.proofs.Linked.{next-off, prev-off}
use Rattle.rules.proofs.Pages.{page-kind, open_says, says_open}
use Rattle.rules.proofs.Shape.{shape-says, free_run_lem}
use Rattle.rules.proofs.Rule2.{rule2-shape, rule2-says}
use Rattle.rules.proofs.Rules.{heads_listed, class-listed, full_alone_lem, rule6-says}

links_eq : {l : Links} {k c r x y : ℕ} → l.kind ≡ k → l.class ≡ c → l.run ≡ r → l.next.0 ≡ x → l.prev.0 ≡ y → l ≡ links k c r x y
links_eq p q r s t = λ i. record { kind = p i; class = q i; run = r i; next = record { 0 = s i }; prev = record { 0 = t i } }

-- ---- runs by their first page and by their end
module _ (len : ℕ → ℕ) where
  pub starts_are : (ps : List ℕ) → starts (with_lengths len ps) ≡ ps
  starts_are [] = refl
  starts_are (p ∷ ps) = ap (λ (l : List ℕ). p ∷ l) (starts_are ps)

  start_on : (ps : List ℕ) (p : ℕ) → Mem p ps → starts_at p (with_lengths len ps) ≡ len p
  start_on (q ∷ ps) p m = go (eq? q p) m (start_on ps p)
    where
      go : (q ≡ p) ⊎ (q ≢ p) → Mem p (q ∷ ps) → (Mem p ps → starts_at p (with_lengths len ps) ≡ len p) → starts_at p (with_lengths len (q ∷ ps)) ≡ len p
      go (inl e) m ih = rw (eq-eqb q p e) (ap len e)
      go (inr d) (inl e) ih = absurd (d (sym e))
      go (inr d) (inr m) ih = rw (ne_eqb q p d) (ih m)
  start_on [] p m = elim m [ ]

  start-off : (ps : List ℕ) (p : ℕ) → ¬ Mem p ps → starts_at p (with_lengths len ps) ≡ 0
  start-off [] p out = refl
  start-off (q ∷ ps) p out = rw (ne_eqb q p (λ e. out (inl (sym e)))) (start-off ps p (λ m. out (inr m)))

  -- a run ends before page q, or none does
  abbrev Ends : List ℕ → ℕ → Type 0
  Ends ps q =
      ((ends_at q (with_lengths len ps) ≡ 0) × ((p : ℕ) → Mem p ps → p + len p ≢ q))
      ⊎ ((p : ℕ) × Mem p ps × (p + len p ≡ q) × (ends_at q (with_lengths len ps) ≡ len p))

  ends? : (ps : List ℕ) (q : ℕ) → Ends ps q
  ends? [] q = inl (refl, λ p m. absurd m)
  ends? (x ∷ ps) q = go (eq? (x + len x) q) (ends? ps q)
    where
      go : (x + len x ≡ q) ⊎ (x + len x ≢ q) → Ends ps q → Ends (x ∷ ps) q
      go (inl e) ih = inr (x, inl refl, e, rw (eq-eqb (x + len x) q e))
      go (inr d) (inl (z, no_one)) = inl (rw (ne_eqb (x + len x) q d) z, off)
        where
          off : (p : ℕ) → Mem p (x ∷ ps) → p + len p ≢ q
          off p (inl e) y = d (subst (λ (w : ℕ). w + len w ≡ q) e y)
          off p (inr m) y = no_one p m y
      go (inr d) (inr (p, m, e, l)) = inr (p, inr m, e, rw (ne_eqb (x + len x) q d) l)

module _ {v : Fields} {n : ℕ} (few : n ≤ no_page) (H : Holds v n) (B : Bounds v n) where
  R : Shape v n
  R = shape-says v n (rule2-shape v n H.two)

  F : LinksHold v n
  F = (rule2-says v n H.two).links

  L : Lists (Head v n) (next v) (prev v) v.image.first_run (heads_of v n)
  L = heads_listed v n few H.three

  K : (c : ℕ) → c < 9 → Lists (Open v n c) (next v) (prev v) (first v c) (list_of v n c)
  K = class-listed v n few H.four

  abbrev runs : List Run
  runs = with_lengths (run v) (heads_of v n)

  -- ---- links of free pages
  head_drawn : (p : ℕ) → p < n → kind v p ≡ 1 → v.image.links p ≡ free_links runs p
  unfolding free_links Head
  head_drawn p h k =
      let m : Mem p (heads_of v n) = L.all p (h, k) in
      let I = R.kind1 p h k in
      let s : starts_at p runs ≡ run v p = start_on (run v) (heads_of v n) p m in
      links_eq k I.no-class (sym s) (L.nexts p m ∙ ap (next_in no_page p) (sym (starts_are (run v) (heads_of v n))))
      (L.prevs p m ∙ ap (prev_from no_page no_page p) (sym (starts_are (run v) (heads_of v n))))
      ∙ sym (pick_no _ _ _ (ne_eqb (starts_at p runs) 0 (omega (arith, I.fits.some-page))))

  inner_drawn : (p : ℕ) → p < n → kind v p ≡ 0 → v.image.links p ≡ free_links runs p
  unfolding free_links back_link Head
  inner_drawn p h k =
      let I = R.kind0 p h k in
      let z : starts_at p runs ≡ 0 = start-off (run v) (heads_of v n) p (λ m. absurd (omega (arith, (L.holds p m).1))) in
      links_eq k I.no-class I.no_run (F.inside-next p h k) (back (ends? (run v) (heads_of v n) (p + 1))) ∙ sym (pick_yes _ _ _ (eq-eqb _ 0 z))
    where
      back : Ends (run v) (heads_of v n) (p + 1) → prev v p ≡ back_link runs p
      back (inl (z, no_one)) = go (free_run_lem v n R p h (omega arith)) ∙ sym (pick_yes _ _ _ (eq-eqb _ 0 z))
        where
          -- the run of p goes on
          go : (q : ℕ) × (q < n) × (kind v q ≡ 1) × (q ≤ p) × (p < q + run v q) → prev v p ≡ no_page
          go (q, lq, kq, le, up) =
              let d : q + run v q ≢ p + 1 = no_one q (L.all q (lq, kq)) in
              let W = (R.kind1 q lq kq).fits in
              F.inside-prev p h k (omega (arith, W.within)) (W.each (p + 1) (omega arith) (omega arith))
      back (inr (q, m, e, l)) =
          let (lq, kq) = L.holds q m in
          let I = R.kind1 q lq kq in
          let d : q ≢ p = λ z. absurd (omega (arith, kq, k, ap (kind v) z)) in
          let s : 1 < run v q = omega (arith, I.fits.some-page) in
          let z : q + run v q - 1 ≡ p = omega arith in
          subst (λ (x : ℕ). prev v x ≡ q) z (F.back q lq kq s) ∙ (let y : q ≡ p + 1 - ends_at (p + 1) runs = omega arith in y)
          ∙ sym (pick_no _ _ _ (ne_eqb (ends_at (p + 1) runs) 0 (omega arith)))

  -- ---- links of class pages
  class_drawn : (p : ℕ) → p < n → kind v p ≡ 2 → v.image.links p ≡ on_list 2 (class v p) 0 p (list_of v n (class v p))
  class_drawn p h k = go (bool? (open_at v n (class v p) p))
    where
      I : ClassPage v p
      I = R.kind2 p h k

      C : Lists (Open v n (class v p)) (next v) (prev v) (first v (class v p)) (list_of v n (class v p))
      C = K (class v p) (omega (arith, I.in_range))

      go : (open_at v n (class v p) p ≡ true) ⊎ (open_at v n (class v p) p ≡ false) → v.image.links p ≡ on_list 2 (class v p) 0 p (list_of v n (class v p))
      go (inl e) = let m = C.all p (open_says v n (class v p) p e) in links_eq k refl I.no_run (C.nexts p m) (C.prevs p m)
      go (inr e) =
          let o : ¬ Open v n (class v p) p = λ w. clash (says_open v n (class v p) p w) e in
          let off : ¬ Mem p (list_of v n (class v p)) = λ m. o (C.holds p m) in
          let (a, b) = full_alone_lem v n H.four p h k o in
          links_eq k refl I.no_run (a ∙ sym (next-off (list_of v n (class v p)) p off)) (b ∙ sym (prev-off (list_of v n (class v p)) no_page p off))

  links_drawn : (p : ℕ) → p < n → v.image.links p ≡ page_links runs (list_of v n) p (page_at v n p)
  links_drawn p h = go (kind v p) refl (R.kinds p h)
    where
      go : (k : ℕ) → kind v p ≡ k → k ≤ 4 → v.image.links p ≡ page_links runs (list_of v n) p (page_at v n p)
      go zero k l = rw (page-kind v n p 0 h k) (inner_drawn p h k)
      go (suc zero) k l = rw (page-kind v n p 1 h k) (head_drawn p h k)
      go (suc (suc zero)) k l = rw (page-kind v n p 2 h k) (class_drawn p h k)
      go (suc (suc (suc zero))) k l =
          let (a, b) = F.taken p h (omega arith) in rw (page-kind v n p 3 h k) (links_eq k (R.kind3 p h k).no-class refl a b)
      go (suc (suc (suc (suc zero)))) k l =
          let (a, b) = F.taken p h (omega arith) in
          let I = R.kind4 p h k in
          rw (page-kind v n p 4 h k) (links_eq k I.no-class I.no_run a b)
      go (suc (suc (suc (suc (suc j))))) k l = absurd (omega arith)

  maps_drawn : (p : ℕ) → p < n → map v p ≡ map_of (page_at v n p)
  maps_drawn p h = go (kind v p) refl (R.kinds p h)
    where
      class-map : kind v p ≡ 2 → (class v p < 3) ⊎ (3 ≤ class v p) → map v p ≡ pick (ltb (class v p) 3) 0 (bits_of (v.mark p) 64)
      class-map k (inl l) = (R.kind2 p h k).map-small l ∙ sym (pick_yes _ _ _ (lt-ltb (class v p) 3 l))
      class-map k (inr l) =
          let I = R.kind2 p h k in
          B.maps p h k l I.in_range (I.map-large l) ∙ sym (pick_no _ _ _ (le-ltb (class v p) 3 l))

      go : (k : ℕ) → kind v p ≡ k → k ≤ 4 → map v p ≡ map_of (page_at v n p)
      go zero k l = rw (page-kind v n p 0 h k) (R.kind0 p h k).no-map
      go (suc zero) k l = rw (page-kind v n p 1 h k) (R.kind1 p h k).no-map
      go (suc (suc zero)) k l = rw (page-kind v n p 2 h k) (class-map k (lt? (class v p) 3))
      go (suc (suc (suc zero))) k l = rw (page-kind v n p 3 h k) (R.kind3 p h k).no-map
      go (suc (suc (suc (suc zero)))) k l = rw (page-kind v n p 4 h k) (R.kind4 p h k).no-map
      go (suc (suc (suc (suc (suc j))))) k l = absurd (omega arith)

  class_record_lem : (c : ℕ) → c < 9 → v.image.class c ≡ (state_image (read_fields v n)).class c
  unfolding state_image read_fields list_of tally_of
  class_record_lem c h = λ i. class_record (head i) (counts.0 i) (counts.1 i) (tally i)
    where
      head : first v c ≡ head_or no_page (list_of v n c)
      head = (K c h).entry

      counts : ((v.image.class c).used ≡ used_of (read_fields v n) c) × ((v.image.class c).total ≡ (shown (read_fields v n)).total c)
      counts = (rule6-says v n H.six).1 c h

      tally : tally_in (v.image.class c) ≡ tally_of v c
      tally = sym (pick_yes _ _ _ (lt-ltb c 9 h))

  image_drawn : Same n v.image (state_image (read_fields v n))
  unfolding state_image read_fields
  image_drawn = record {
    free_pages = (rule6-says v n H.six).0;
    first_run = L.entry ∙ ap (head_or no_page) (sym (starts_are (run v) (heads_of v n)));
    class = class_record_lem;
    map = maps_drawn;
    links = links_drawn;
  }

  drawn : Agree n v (state_fields (read_fields v n))
  unfolding state_fields read_fields
  drawn = record {
    image_same = image_drawn;
    spare = F.spare;
    marks = λ p h k. sym (ap (λ (x : Page). λ (i : ℕ). marks_of x i) (page-kind v n p 2 h k));
  }

pub fields_drawn : {v : Fields} {n : ℕ} → 1 ≤ n → n ≤ no_page → Holds v n → Bounds v n → Agree n v (state_fields (read_fields v n))
fields_drawn some few H B = drawn few H B
