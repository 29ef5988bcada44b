-- The fields of a well-formed state of at most 4,096 pages are numbers of their widths.
use mathlib.Core.Path.{◌≡◌, refl, sym, ap, subst}
use mathlib.Core.Logic.{◌⊎◌, inl, inr, ◌≢◌}
use mathlib.Core.Bool.{◌&&◌}
use mathlib.Core.List.{List, [], ◌∷◌}
use Prim.Native.Nat.{ℕ, ◌+◌, ◌-◌, ◌≤◌, ◌<◌}
use native.Mathlib.Omega.{arith}
use native.Mathlib.Nat.{mul-le-mul_left}
use lib.Pow.{pow_mono}
use lib.Dec.{leb}
use borrow.Author.Tests.{eq-eqb, ne_eqb}
use Rattle.base.specs.Count.{count}
use Rattle.base.specs.Lists.{Mem}
use Rattle.base.specs.Links.{head_or, next_in, prev_from}
use Rattle.base.proofs.Cases.{eq?, never}
use Rattle.base.proofs.Count.{sum_bound, count_bound}
use Rattle.base.proofs.AllBelow.{pick_yes, pick_no}
use Rattle.records.specs.Layout.{no_page}
use Rattle.records.specs.declared.Links.{Links}
use Rattle.records.specs.Fits.{LinksFit}
use Rattle.model.specs.Classes.{chunks, own, counted}
use Rattle.model.specs.State.{Page, idle, slab, taken, inside, edge, State, most, is_idle, marks_of}
use Rattle.model.specs.WellFormed.{WellFormed}
use Rattle.model.specs.Runs.{starts_at, ends_at}
use Rattle.model.specs.View.{is_class, kind_of, used_on, used_of, total_in, shown}
use Rattle.model.proofs.Lists.{open_is}
use Rattle.model.proofs.Table.{in_table, slab_ok}
use Rattle.image.proofs.Fits.{Fits}
use Rattle.rules.specs.Fields.{run}
use Rattle.rules.specs.Rules.{free_in}
use Rattle.rules.specs.Drawn.{starts, on_list, back_link, free_links, page_links, state_image, state_fields}
use Rattle.rules.proofs.Runs.{mem-start, started}
use Rattle.rules.proofs.Shown.{run-within, links_are, shows-rule2}

-- ---- counts
chunks_bound : (c : ℕ) → chunks c ≤ 512
unfolding chunks
chunks_bound c = let l : 9 - c ≤ 9 = omega arith in pow_mono l

used_bound : (c : ℕ) (x : Page) → used_on c x ≤ 512
used_bound c x = omega (arith, chunks_bound c, count_bound (λ i. leb (own c) i && (is_class c (kind_of x) && marks_of x i)) (chunks c))

-- ---- links
module _ (N : ℕ) (few : N ≤ no_page) where
  abbrev Under : List ℕ → Type 0
  Under L = (q : ℕ) → Mem q L → q < N

  head_bound : (L : List ℕ) → Under L → head_or no_page L < 65536
  head_bound [] u = omega arith
  head_bound (p ∷ L) u = omega (arith, u p (inl refl))

  next_bound : (p : ℕ) (L : List ℕ) → Under L → next_in no_page p L < 65536
  next_bound p [] u = omega arith
  next_bound p (q ∷ L) u = go (eq? q p) (next_bound p L (λ x m. u x (inr m)))
    where
      go : (q ≡ p) ⊎ (q ≢ p) → next_in no_page p L < 65536 → next_in no_page p (q ∷ L) < 65536
      go (inl e) ih = rw (eq-eqb q p e) (head_bound L (λ x m. u x (inr m)))
      go (inr e) ih = rw (ne_eqb q p e) ih

  prev_bound : (p b : ℕ) (L : List ℕ) → b < 65536 → Under L → prev_from no_page b p L < 65536
  prev_bound p b [] l u = omega arith
  prev_bound p b (q ∷ L) l u = go (eq? q p) (prev_bound p q L (omega (arith, u q (inl refl))) (λ x m. u x (inr m)))
    where
      go : (q ≡ p) ⊎ (q ≢ p) → prev_from no_page q p L < 65536 → prev_from no_page b p (q ∷ L) < 65536
      go (inl e) ih = rw (eq-eqb q p e) l
      go (inr e) ih = rw (ne_eqb q p e) ih

  list_fits : (k c r p : ℕ) (L : List ℕ) → k < 8 → c < 16 → r < 65536 → Under L → LinksFit (on_list k c r p L)
  list_fits k c r p L a b d u = record { kind = a; class = b; run = d; next = next_bound p L u; prev = prev_bound p no_page L (omega arith) u }

module _ {m : State} (W : WellFormed m) (few : m.size ≤ 4096) where
  abbrev n : ℕ
  n = m.size

  starts_under : Under n (omega arith) (starts m.runs)
  starts_under q k =
      let (r, rm, e) = mem-start m.runs q k in
      omega (arith, run-within W r rm, (W.free_runs.sound r rm).some-page)

  lists_under : (c : ℕ) → Under n (omega arith) (m.lists c)
  lists_under c q k =
      let (b, e, _) = open_is c (m.page q) (W.class-lists.holds c q k) in
      in_table W.table q (λ z. never (cc))

  starts_fit : (p : ℕ) → starts_at p m.runs < 65536
  starts_fit p = go (eq? (starts_at p m.runs) 0)
    where
      go : (starts_at p m.runs ≡ 0) ⊎ (starts_at p m.runs ≢ 0) → starts_at p m.runs < 65536
      go (inl z) = omega arith
      go (inr z) = let (r, rm, e, l) = started W.free_runs p z in omega (arith, run-within W r rm)

  back_fits : (p : ℕ) → p < n → back_link m.runs p < 65536
  unfolding back_link
  back_fits p h = go (eq? (ends_at (p + 1) m.runs) 0)
    where
      go : (ends_at (p + 1) m.runs ≡ 0) ⊎ (ends_at (p + 1) m.runs ≢ 0) → back_link m.runs p < 65536
      go (inl z) = rw (pick_yes _ no_page (p + 1 - ends_at (p + 1) m.runs) (eq-eqb _ 0 z)) (omega arith)
      go (inr z) = rw (pick_no _ no_page (p + 1 - ends_at (p + 1) m.runs) (ne_eqb _ 0 z)) (omega arith)

  free-fits : (p : ℕ) → p < n → LinksFit (free_links m.runs p)
  unfolding free_links
  free-fits p h = go (eq? (starts_at p m.runs) 0)
    where
      go : (starts_at p m.runs ≡ 0) ⊎ (starts_at p m.runs ≢ 0) → LinksFit (free_links m.runs p)
      go (inl z) =
          subst LinksFit (sym (pick_yes _ _ _ (eq-eqb (starts_at p m.runs) 0 z)))
          (record { kind = omega arith; class = omega arith; run = omega arith; next = omega arith; prev = back_fits p h })
      go (inr z) =
          subst LinksFit (sym (pick_no _ _ _ (ne_eqb (starts_at p m.runs) 0 z)))
          (list_fits n (omega arith) 1 0 (starts_at p m.runs) p (starts m.runs) (omega arith) (omega arith) (starts_fit p) starts_under)

  links-fit : (p : ℕ) → p < n → (x : Page) → m.page p ≡ x → LinksFit (page_links m.runs m.lists p x)
  links-fit p h idle e = free-fits p h
  links-fit p h (slab c k) e =
      list_fits n (omega arith) 2 c 0 p (m.lists c) (omega arith) (omega (arith, (slab_ok W.table e).in_range)) (omega arith) (lists_under c)
  links-fit p h (taken x) e =
      let L = links_are W p (taken x) e in
      let F = ((shows-rule2 W).shape.kind3 p h (ap (λ (l : Links). l.kind) L)).fits in
      let l : run (state_fields m) p ≡ x = ap (λ (l : Links). l.run) L in
      record { kind = omega arith; class = omega arith; run = omega (arith, F.within); next = omega arith; prev = omega arith }
  links-fit p h inside e = record { kind = omega arith; class = omega arith; run = omega arith; next = omega arith; prev = omega arith }
  links-fit p h edge e = record { kind = omega arith; class = omega arith; run = omega arith; next = omega arith; prev = omega arith }

  used-fits : (c : ℕ) → used_of m c < 16777216
  unfolding used_of
  used-fits c =
      omega (arith, sum_bound (λ p. used_on c (m.page p)) 512 (λ p. used_bound c (m.page p)) n)

  total-fits : (c : ℕ) → (shown m).total c < 16777216
  unfolding shown total_in counted
  total-fits c =
      let k : ℕ = count (λ p. is_class c (kind_of (m.page p))) n in
      let a : k ≤ 4096 = omega (arith, count_bound (λ p. is_class c (kind_of (m.page p))) n) in
      let b : chunks c - own c ≤ 512 = omega (arith, chunks_bound c) in
      omega (arith, mul-le-mul_left k b)

  pub state-fits : Fits n (state_image m)
  unfolding state_image free_in most
  state-fits = record {
    free_pages = omega (arith, count_bound (λ p. is_idle (m.page p)) n);
    first_run = head_bound n (omega arith) (starts m.runs) starts_under;
    class = λ c h. record {
      first = head_bound n (omega arith) (m.lists c) (lists_under c);
      used = used-fits c;
      total = total-fits c;
      reqs = omega (arith, (W.tallies c).reqs-fit);
      fails = omega (arith, (W.tallies c).fails-fit);
    };
    links = λ p h. links-fit p h (m.page p) refl;
  }
