-- An alloc that cuts a new class page keeps the state well formed and adds its block.
use mathlib.Core.Path.{◌≡◌, refl, sym, ap, ◌∙◌}
use mathlib.Core.Logic.{◌⊎◌, inl, inr, ◌≢◌}
use mathlib.Core.Bool.{Bool, true}
use mathlib.Core.Option.{some}
use mathlib.Core.List.{[], ◌∷◌}
use Prim.Native.Nat.{ℕ, ◌+◌, ◌*◌, ◌≤◌, ◌<◌}
use native.Mathlib.Omega.{arith}
use borrow.Author.Tests.{leb-true, le-leb, lt-leb}
use Rattle.base.specs.Functions.{upd}
use Rattle.base.specs.Lists.{Mem}
use Rattle.base.proofs.Cases.{never, eq?}
use Rattle.base.proofs.Functions.{upd_same, upd_other, upd_out}
use Rattle.model.specs.Classes.{chunk, own, has_clear, new_marks}
use Rattle.model.specs.State.{Page, idle, slab, Run, State, is_open}
use Rattle.model.specs.Runs.{fit}
use Rattle.model.specs.WellFormed.{ClassOk, TableOk, ListsOk, WellFormed}
use Rattle.model.specs.Calls.{cut_page}
use Rattle.model.specs.Live.{Block, small, On}
use Rattle.model.specs.Effects.{Adds, SlabsFrom}
use Rattle.model.proofs.Classes.{own-few, clear_at, taken_at}
use Rattle.model.proofs.Table.{solid_slab, Becomes}
use Rattle.model.proofs.Lists.{open_slab, open_other, lists-upd}
use Rattle.model.proofs.Tallies.{asked_ok}
use Rattle.model.proofs.Blocks.{adds}
use Rattle.model.proofs.Occupy.{were_idle, occupied_table, occupied_runs}

module _ (c : ℕ) (h : c ≤ 8) where
  new-class : ClassOk c (new_marks c)
  unfolding new_marks
  new-class = record {
    in_range = h;
    own-set = λ i l. le-leb i (own c) (omega arith);
    past_clear = λ i l. lt-leb i (own c) (omega (arith, own-few c h));
    in_use = taken_at c (new_marks c) (own c) (omega arith) (omega (arith, own-few c h)) (le-leb (own c) (own c) (omega arith));
  }

  new_clear : has_clear c (new_marks c) ≡ true
  unfolding new_marks
  new_clear = clear_at c (new_marks c) (own c + 1) (own-few c h) (lt-leb (own c + 1) (own c) (omega arith))

module _ (s : State) (wf : WellFormed s) (c : ℕ) (c-ok : c ≤ 8) (empty : s.lists c ≡ []) (r : Run) (found : fit 1 s.runs ≡ some r) where
  abbrev page' : ℕ → Page
  page' = upd s.page r.start (slab c (new_marks c))

  was : s.page r.start ≡ idle
  was = were_idle wf.table wf.free_runs 1 (omega arith) r found r.start (omega arith) (omega arith)

  head : page' r.start ≡ slab c (new_marks c)
  head = upd_same s.page r.start (slab c (new_marks c))

  other : (j : ℕ) → j ≢ r.start → page' j ≡ s.page j
  other j n = upd_other s.page r.start (slab c (new_marks c)) j n

  only : (j : ℕ) → r.start ≤ j → j < r.start + 1 → page' j ≡ slab c (new_marks c)
  only j l u = let p : j ≡ r.start = omega arith in ap page' p ∙ head

  becomes : Becomes s.page page' r.start 1
  becomes = record {
    solid = solid_slab page' r.start c (new_marks c) head;
    run = λ j e. absurd (never (cc head));
    good = λ j l u. (rw (only j l u) (new-class c c-ok), λ e. never (cc (only j l u)));
    same = upd_out s.page r.start (slab c (new_marks c));
  }

  busy : (j : ℕ) → r.start ≤ j → j < r.start + 1 → page' j ≢ idle
  busy j l u e = never (cc (only j l u))

  table' : TableOk s.size page'
  table' = occupied_table wf.table wf.free_runs 1 (omega arith) r found becomes busy

  lists' : ListsOk page' (upd s.lists c (r.start ∷ []))
  lists' = lists-upd c (r.start ∷ []) wf.class-lists (λ d j n. others d j n (eq? j r.start)) (λ m. m, tt) holds (λ j e. all j e (eq? j r.start))
    where
      others : (d j : ℕ) → d ≢ c → (j ≡ r.start) ⊎ (j ≢ r.start) → is_open d (page' j) ≡ is_open d (s.page j)
      others d j n (inl p) = unfold is_open in (rw (p, head, was) (open_other c d (new_marks c) n))
      others d j n (inr p) = ap (is_open d) (other j p)

      holds : (j : ℕ) → Mem j (r.start ∷ []) → is_open c (page' j) ≡ true
      holds j (inl p) = rw (p, head) (open_slab c (new_marks c) ∙ new_clear c c-ok)
      holds j (inr x') = elim x' [ ]

      all : (j : ℕ) → is_open c (page' j) ≡ true → (j ≡ r.start) ⊎ (j ≢ r.start) → Mem j (r.start ∷ [])
      all j e (inl p) = inl p
      all j e (inr p) = absurd (rw empty at (wf.class-lists.all c j (sym (ap (is_open c) (other j p)) ∙ e)))

  abbrev new : Block
  new = small (4096 * r.start + chunk c * own c) c

  pub cut_adds : Adds s.page page' new
  unfolding On new_marks
  cut_adds =
      adds wf.table table' r.start (λ j n e. rw (other j n) (λ x. x, λ x. x)) new (λ x. rw was at x)
      (rw head (own c, refl, omega arith, omega (arith, own-few c c-ok), le-leb (own c) (own c) (omega arith))) (λ e x. inl (only-new e (rw head at x)))
      (λ e x. absurd (rw was at x))
    where
      only-new : (e : Block) → On (slab c (new_marks c)) r.start e → e ≡ new
      only-new e (i, p, o, l, t) = let z : i ≡ own c = omega (arith, leb-true i (own c) t) in p ∙ ap (λ (n : ℕ). small (4096 * r.start + chunk c * n) c) z

  pub cut-slabs : SlabsFrom s.page page'
  cut-slabs p d m h = go (eq? p r.start)
    where
      go : (p ≡ r.start) ⊎ (p ≢ r.start) → ((m : ℕ → Bool) × (s.page p ≡ slab d m)) ⊎ (s.page p ≡ idle)
      go (inl q) = inr (ap s.page q ∙ was)
      go (inr q) = inl (m, sym (other p q) ∙ h)

  pub cut-well : WellFormed (cut_page s c (some r)).after
  unfolding cut_page
  cut-well = record {
    some-page = wf.some-page;
    table = table';
    free_runs = occupied_runs wf.table wf.free_runs 1 (omega arith) r found becomes busy;
    class-lists = lists';
    tallies = asked_ok wf.tallies c c-ok;
  }
