-- A granted free of a taken run keeps the state well formed and strikes out its block.
use mathlib.Core.Path.{◌≡◌, refl, sym, ap, ◌∙◌}
use mathlib.Core.Logic.{◌⊎◌, inl, inr, ◌≢◌}
use mathlib.Core.Bool.{Bool}
use Prim.Native.Nat.{ℕ, ◌+◌, ◌*◌, ◌≤◌, ◌<◌}
use native.Mathlib.Omega.{arith}
use Rattle.base.specs.Functions.{fill}
use Rattle.base.proofs.Cases.{never, eq?, Out, in?}
use Rattle.base.proofs.Functions.{fill_in, fill_out}
use Rattle.model.specs.State.{Page, idle, slab, taken, inside, edge, State, is_open}
use Rattle.model.specs.WellFormed.{TableOk, WellFormed}
use Rattle.model.specs.Calls.{release}
use Rattle.model.specs.Live.{Block, large, offset, extent, On}
use Rattle.model.specs.Effects.{Strikes, SlabsFrom}
use Rattle.model.proofs.Table.{taken_ok, Solid, solid_run}
use Rattle.model.proofs.Lists.{lists_same}
use Rattle.model.proofs.Blocks.{strikes}
use Rattle.model.proofs.Release.{freed-table, freed-runs}

module _ (s : State) (wf : WellFormed s) (p n : ℕ) (was : s.page p ≡ taken n) where
  pos : 1 ≤ n
  pos = taken_ok wf.table was

  inner : (j : ℕ) → p < j → j < p + n → s.page j ≡ inside
  inner j l u = wf.table.inner p n j was l u

  -- a page of the run
  data In (j : ℕ) : Type 0 where
    is_head : s.page j ≡ taken n → In j
    is-rest : s.page j ≡ inside → In j

  in_run : (j : ℕ) → p ≤ j → j < p + n → In j
  in_run j l u = go (eq? j p)
    where
      go : (j ≡ p) ⊎ (j ≢ p) → In j
      go (inl q) = is_head (ap s.page q ∙ was)
      go (inr q) = is-rest (inner j (omega arith) u)

  busy : (j : ℕ) → In j → (s.page j ≢ idle) × (s.page j ≢ edge)
  busy j (is_head h) = (λ e. never (cc), λ e. never (cc))
  busy j (is-rest h) = (λ e. never (cc), λ e. never (cc))

  abbrev page' : ℕ → Page
  page' = fill s.page p n idle

  solid : Solid s.page p n
  solid = solid_run s.page p n was inner

  table' : TableOk s.size page'
  table' = freed-table wf.table wf.free_runs p n pos solid (λ j l u. busy j (in_run j l u))

  now : (j : ℕ) → p ≤ j → j < p + n → page' j ≡ idle
  now j l u = fill_in s.page p n idle j l u

  open_same : (c j : ℕ) → is_open c (page' j) ≡ is_open c (s.page j)
  unfolding is_open
  open_same c j = go (in? p n j)
    where
      side : In j → page' j ≡ idle → is_open c (page' j) ≡ is_open c (s.page j)
      side (is_head h) z = rw (h, z)
      side (is-rest h) z = rw (h, z)

      go : ((p ≤ j) × (j < p + n)) ⊎ Out p n j → is_open c (page' j) ≡ is_open c (s.page j)
      go (inl (l, u)) = side (in_run j l u) (now j l u)
      go (inr o) = ap (is_open c) (fill_out s.page p n idle j o)

  quiet : (j : ℕ) → j ≢ p → (e : Block) → (On (s.page j) j e → On (page' j) j e) × (On (page' j) j e → On (s.page j) j e)
  unfolding On
  quiet j d e = go (in? p n j)
    where
      go : ((p ≤ j) × (j < p + n)) ⊎ Out p n j → (On (s.page j) j e → On (page' j) j e) × (On (page' j) j e → On (s.page j) j e)
      go (inl (l, u)) = (λ x. absurd (rw (inner j (omega arith) u) at x), λ x. absurd (rw (now j l u) at x))
      go (inr o) = rw (fill_out s.page p n idle j o) (λ x. x, λ x. x)

  pub released_strikes : Strikes s.page page' (4096 * p) (4096 * n)
  unfolding On extent
  released_strikes =
      strikes wf.table table' p quiet (large (4096 * p) n) (rw was refl) (λ e x. absurd (rw (now p (omega arith) (omega (arith, pos))) at x))
      (λ e x d. absurd (d (ap offset (rw was at x))))

  pub released-slabs : SlabsFrom s.page page'
  released-slabs q c m h = go (in? p n q)
    where
      go : ((p ≤ q) × (q < p + n)) ⊎ Out p n q → ((m : ℕ → Bool) × (s.page q ≡ slab c m)) ⊎ (s.page q ≡ idle)
      go (inl (l, u)) = absurd (never (cc (now q l u)))
      go (inr o) = inl (m, sym (fill_out s.page p n idle q o) ∙ h)

  pub released-well : WellFormed (release s p n)
  unfolding release
  released-well = record {
    some-page = wf.some-page;
    table = table';
    free_runs = freed-runs wf.table wf.free_runs p n pos solid (λ j l u. busy j (in_run j l u));
    class-lists = lists_same wf.class-lists open_same;
    tallies = wf.tallies;
  }
