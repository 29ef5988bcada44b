-- A granted alloc of pages keeps the state well formed and adds its block.
use mathlib.Core.Path.{◌≡◌, refl, sym, ap, ◌∙◌}
use mathlib.Core.Logic.{◌⊎◌, inl, inr, ◌≢◌}
use mathlib.Core.Bool.{Bool}
use mathlib.Core.Option.{some}
use Prim.Native.Nat.{ℕ, ◌+◌, ◌*◌, ◌≤◌, ◌<◌}
use native.Mathlib.Omega.{arith}
use Rattle.base.specs.Functions.{upd, fill}
use Rattle.base.proofs.Cases.{never, eq?, Out, in?}
use Rattle.base.proofs.Functions.{upd_same, upd_other, fill_in, fill_out}
use Rattle.model.specs.State.{Page, idle, slab, taken, inside, edge, Run, State, is_open}
use Rattle.model.specs.Runs.{fit}
use Rattle.model.specs.WellFormed.{PageOk, TableOk, WellFormed}
use Rattle.model.specs.Calls.{alloc_run}
use Rattle.model.specs.Live.{Block, large, On}
use Rattle.model.specs.Effects.{Adds, SlabsFrom}
use Rattle.model.proofs.Table.{solid_run, Becomes}
use Rattle.model.proofs.Lists.{lists_same}
use Rattle.model.proofs.Blocks.{adds}
use Rattle.model.proofs.Occupy.{were_idle, occupied_table, occupied_runs}

module _ (s : State) (wf : WellFormed s) (k : ℕ) (pos : 1 ≤ k) (r : Run) (found : fit k s.runs ≡ some r) where
  abbrev page' : ℕ → Page
  page' = upd (fill s.page r.start k inside) r.start (taken k)

  was : (j : ℕ) → r.start ≤ j → j < r.start + k → s.page j ≡ idle
  was = were_idle wf.table wf.free_runs k pos r found

  head : page' r.start ≡ taken k
  head = upd_same (fill s.page r.start k inside) r.start (taken k)

  rest : (j : ℕ) → r.start < j → j < r.start + k → page' j ≡ inside
  rest j l u = upd_other (fill s.page r.start k inside) r.start (taken k) j (omega arith) ∙ fill_in s.page r.start k inside j (omega arith) u

  same : (j : ℕ) → Out r.start k j → page' j ≡ s.page j
  same j o = upd_other (fill s.page r.start k inside) r.start (taken k) j (ne o) ∙ fill_out s.page r.start k inside j o
    where
      ne : Out r.start k j → j ≢ r.start
      ne (inl l) = omega arith
      ne (inr l) = omega arith

  -- a page of the new run
  data New (j : ℕ) : Type 0 where
    is_head : j ≡ r.start → page' j ≡ taken k → New j
    is-rest : page' j ≡ inside → New j

  new : (j : ℕ) → r.start ≤ j → j < r.start + k → New j
  new j l u = go (eq? j r.start)
    where
      go : (j ≡ r.start) ⊎ (j ≢ r.start) → New j
      go (inl p) = is_head p (ap page' p ∙ head)
      go (inr p) = is-rest (rest j (omega arith) u)

  becomes : Becomes s.page page' r.start k
  becomes = record { solid = solid_run page' r.start k head rest; run = λ j _. rest j; good = λ j l u. good j (new j l u); same = same }
    where
      good : (j : ℕ) → New j → PageOk (page' j) × (page' j ≢ edge)
      good j (is_head p h) = (rw h pos, λ e. never (cc))
      good j (is-rest h) = (rw h tt, λ e. never (cc))

  busy : (j : ℕ) → r.start ≤ j → j < r.start + k → page' j ≢ idle
  busy j l u = go (new j l u)
    where
      go : New j → page' j ≢ idle
      go (is_head p h) e = never (cc)
      go (is-rest h) e = never (cc)

  table' : TableOk s.size page'
  table' = occupied_table wf.table wf.free_runs k pos r found becomes busy

  open_same : (c j : ℕ) → is_open c (page' j) ≡ is_open c (s.page j)
  unfolding is_open
  open_same c j = go (in? r.start k j)
    where
      side : New j → s.page j ≡ idle → is_open c (page' j) ≡ is_open c (s.page j)
      side (is_head p h) z = rw (h, z)
      side (is-rest h) z = rw (h, z)

      go : ((r.start ≤ j) × (j < r.start + k)) ⊎ Out r.start k j → is_open c (page' j) ≡ is_open c (s.page j)
      go (inl (l, u)) = side (new j l u) (was j l u)
      go (inr o) = ap (is_open c) (same j o)

  quiet : (j : ℕ) → j ≢ r.start → (e : Block) → (On (s.page j) j e → On (page' j) j e) × (On (page' j) j e → On (s.page j) j e)
  unfolding On
  quiet j n e = go (in? r.start k j)
    where
      go : ((r.start ≤ j) × (j < r.start + k)) ⊎ Out r.start k j → (On (s.page j) j e → On (page' j) j e) × (On (page' j) j e → On (s.page j) j e)
      go (inl (l, u)) = (λ x. absurd (rw (was j l u) at x), λ x. absurd (rw (rest j (omega arith) u) at x))
      go (inr o) = rw (same j o) (λ x. x, λ x. x)

  pub run_adds : Adds s.page page' (large (4096 * r.start) k)
  unfolding On
  run_adds =
      adds wf.table table' r.start quiet (large (4096 * r.start) k) (λ x. rw (was r.start (omega arith) (omega arith)) at x) (rw head refl)
      (λ e x. inl (rw head at x)) (λ e x. absurd (rw (was r.start (omega arith) (omega arith)) at x))

  pub run-slabs : SlabsFrom s.page page'
  run-slabs p c m h = go (in? r.start k p)
    where
      side : New p → ((m : ℕ → Bool) × (s.page p ≡ slab c m)) ⊎ (s.page p ≡ idle)
      side (is_head q z) = absurd (never (cc))
      side (is-rest z) = absurd (never (cc))

      go : ((r.start ≤ p) × (p < r.start + k)) ⊎ Out r.start k p → ((m : ℕ → Bool) × (s.page p ≡ slab c m)) ⊎ (s.page p ≡ idle)
      go (inl (l, u)) = side (new p l u)
      go (inr o) = inl (m, sym (same p o) ∙ h)

  pub run-well : WellFormed (alloc_run s k (some r)).after
  unfolding alloc_run
  run-well = record {
    some-page = wf.some-page;
    table = table';
    free_runs = occupied_runs wf.table wf.free_runs k pos r found becomes busy;
    class-lists = lists_same wf.class-lists open_same;
    tallies = wf.tallies;
  }
