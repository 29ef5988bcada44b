-- A sound pool's records show what its state shows.
use mathlib.Core.Path.{◌≡◌, refl, sym, ap, ◌∙◌, fun_ext}
use mathlib.Core.Logic.{◌⊎◌, inl, inr, ◌≢◌}
use mathlib.Core.Bool.{Bool, true, false, ◌&&◌, and-false}
use Prim.Native.Nat.{ℕ, ◌≤◌, ◌<◌}
use native.Mathlib.Omega.{arith}
use lib.Dec.{leb, ltb}
use borrow.Author.Tests.{eq-eqb, ne_eqb, lt-ltb, le-ltb, eqb-true}
use Rattle.base.specs.Tests.{pick}
use Rattle.base.specs.Count.{sum, count, bit}
use Rattle.base.proofs.Cases.{clash, eq?, lt?}
use Rattle.base.proofs.Count.{sum-zero}
use Rattle.base.proofs.AllBelow.{all-at}
use Rattle.records.specs.declared.Links.{Links}
use Rattle.model.specs.Classes.{chunks, own}
use Rattle.model.specs.State.{Page, idle, slab, taken, inside, edge, State, is_idle, marks_of}
use Rattle.model.specs.Runs.{starts_at}
use Rattle.model.specs.WellFormed.{WellFormed}
use Rattle.model.specs.View.{kind_of, is_class, used_of, total_in, shown}
use Rattle.rules.specs.Fields.{Fields, kind, run, page_at}
use Rattle.rules.specs.Read.{is_head, read_fields}
use Rattle.rules.specs.Rules.{counts_fit, rule6}
use Rattle.rules.specs.Drawn.{free_links, page_links, state_image, state_fields}
use Rattle.rules.specs.Agree.{Agree, Holds}
use Rattle.rules.proofs.Runs.{started}
use Rattle.demands.specs.Shown.{field_view}
use Rattle.base.proofs.Tests.{both_true}

-- no page of a well-formed state is of a class past 8
not-class : (c : ℕ) (x : Page) (m : State) (W : WellFormed m) (p : ℕ) → m.page p ≡ x → 9 ≤ c → is_class c (kind_of x) ≡ false
not-class c idle m W p e h = refl
not-class c (slab d k) m W p e h =
    let l : d ≤ 8 = (rw e at (W.table.each p)).in_range in
    ne_eqb d c (λ z. omega arith)
not-class c (taken n) m W p e h = refl
not-class c inside m W p e h = refl
not-class c edge m W p e h = refl

module _ (m : State) (W : WellFormed m) (c : ℕ) (past : 9 ≤ c) where
  used-past : used_of m c ≡ 0
  unfolding used_of count
  used-past =
      sum-zero _ m.size (λ p _. sum-zero _ (chunks c) (λ i _.
      ap bit (ap (λ (t : Bool). leb (own c) i && (t && marks_of (m.page p) i)) (not-class c (m.page p) m W p refl past) ∙ and-false (leb (own c) i))))

  total-past : total_in (λ p. kind_of (m.page p)) m.size c ≡ 0
  unfolding total_in count
  total-past =
      let z : sum (λ p. bit (is_class c (kind_of (m.page p)))) m.size ≡ 0 =
      sum-zero _ m.size (λ p _. ap bit (not-class c (m.page p) m W p refl past)) in
      rw z (omega arith)

module _ {v : Fields} {n : ℕ} (W : WellFormed (read_fields v n)) (A : Agree n v (state_fields (read_fields v n))) (H : Holds v n) where
  abbrev m : State
  m = read_fields v n

  links_are : (p : ℕ) → p < n → v.image.links p ≡ page_links m.runs m.lists p (m.page p)
  unfolding state_fields state_image
  links_are p h = A.image_same.links p h

  -- the first page of a free run has its length, and no other page starts one
  runs-shown : (p : ℕ) → pick (is_head v n p) (run v p) 0 ≡ starts_at p m.runs
  unfolding is_head pick read_fields free_links page_at
  runs-shown p = go (lt? p n) (eq? (kind v p) 1) (eq? (starts_at p m.runs) 0)
    where
      free_here : starts_at p m.runs ≢ 0 → is_idle (m.page p) ≡ true
      free_here d =
          let (r, k, e, l) = started W.free_runs p d in
          (W.free_runs.sound r k).all_free p (omega arith) (omega (arith, (W.free_runs.sound r k).some-page))

      here : (x : Page) → m.page p ≡ x → p < n → is_idle x ≡ true → v.image.links p ≡ free_links m.runs p
      here idle e h i = links_are p h ∙ ap (page_links m.runs m.lists p) e
      here (slab c k) e h i = absurd (clash i refl)
      here (taken j) e h i = absurd (clash i refl)
      here inside e h i = absurd (clash i refl)
      here edge e h i = absurd (clash i refl)

      go : (p < n) ⊎ (n ≤ p) → (kind v p ≡ 1) ⊎ (kind v p ≢ 1) → (starts_at p m.runs ≡ 0) ⊎ (starts_at p m.runs ≢ 0) →
          pick (is_head v n p) (run v p) 0 ≡ starts_at p m.runs
      go (inl h) (inl k) (inl z) =
          let i : m.page p ≡ idle = rw (lt-ltb p n h, k) in
          let l : v.image.links p ≡ free_links m.runs p = here idle i h refl in
          let e : kind v p ≡ 0 = ap (λ (x : Links). x.kind) l ∙ rw (eq-eqb (starts_at p m.runs) 0 z) in
          absurd (omega arith)
      go (inl h) (inl k) (inr z) =
          let i : m.page p ≡ idle = rw (lt-ltb p n h, k) in
          let l : v.image.links p ≡ free_links m.runs p = here idle i h refl in
          rw (lt-ltb p n h, eq-eqb (kind v p) 1 k) (ap (λ (x : Links). x.run) l ∙ rw (ne_eqb (starts_at p m.runs) 0 z))
      go (inl h) (inr k) (inl z) = rw (lt-ltb p n h, ne_eqb (kind v p) 1 k) (sym z)
      go (inl h) (inr k) (inr z) =
          let l : v.image.links p ≡ free_links m.runs p = here (m.page p) refl h (free_here z) in
          absurd (k (ap (λ (x : Links). x.kind) l ∙ rw (ne_eqb (starts_at p m.runs) 0 z)))
      go (inr h) k (inl z) = rw (le-ltb p n h) (sym z)
      go (inr h) k (inr z) = absurd (clash (free_here z) (rw (le-ltb p n h)))

  counted-well : (c : ℕ) → c < 9 → ((v.image.class c).used ≡ used_of m c) × ((v.image.class c).total ≡ (shown m).total c)
  unfolding rule6 counts_fit
  counted-well c h =
      let x = both_true _ _ (all-at _ 9 (both_true _ _ H.six).1 c h) in (eqb-true _ _ x.0, eqb-true _ _ x.1)

  pub view-shown : field_view v n ≡ shown m
  unfolding field_view shown read_fields pick
  view-shown = λ i. record {
    size = n;
    free_run = fun_ext runs-shown i;
    page = λ p. kind_of (page_at v n p);
    mark = λ p j. marks_of (page_at v n p) j;
    used = fun_ext used i;
    total = fun_ext total i;
  }
    where
      used : (c : ℕ) → pick (ltb c 9) (v.image.class c).used 0 ≡ used_of m c
      used c = go (lt? c 9)
        where
          go : (c < 9) ⊎ (9 ≤ c) → pick (ltb c 9) (v.image.class c).used 0 ≡ used_of m c
          go (inl h) = rw (lt-ltb c 9 h) (counted-well c h).0
          go (inr h) = rw (le-ltb c 9 h) (sym (used-past m W c h))

      total : (c : ℕ) → pick (ltb c 9) (v.image.class c).total 0 ≡ total_in (λ p. kind_of (m.page p)) m.size c
      total c = go (lt? c 9)
        where
          go : (c < 9) ⊎ (9 ≤ c) → pick (ltb c 9) (v.image.class c).total 0 ≡ total_in (λ p. kind_of (m.page p)) m.size c
          go (inl h) = rw (lt-ltb c 9 h) (counted-well c h).1
          go (inr h) = rw (le-ltb c 9 h) (sym (total-past m W c h))
