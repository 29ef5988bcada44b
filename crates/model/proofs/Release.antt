-- The pages of a taken run or a class page become free: the table and the free runs.
use mathlib.Core.Path.{◌≡◌, ap}
use mathlib.Core.Logic.{◌≢◌}
use mathlib.Core.List.{List}
use Prim.Native.Nat.{ℕ, ◌+◌, ◌-◌, ◌≤◌, ◌<◌}
use native.Mathlib.Omega.{arith}
use Rattle.base.specs.Functions.{fill}
use Rattle.base.proofs.Cases.{never, Out}
use Rattle.base.proofs.Functions.{fill_in, fill_out}
use Rattle.model.specs.State.{Page, idle, edge, Run, is_idle}
use Rattle.model.specs.Runs.{join_runs}
use Rattle.model.specs.WellFormed.{TableOk, RunsOk}
use Rattle.model.proofs.Runs.{released}
use Rattle.model.proofs.Table.{not-idle, in_table, Solid, solid_idle, replaced}

module _ {size : ℕ} {f : ℕ → Page} {rs : List Run} (ok : TableOk size f) (rok : RunsOk (λ j. is_idle (f j)) rs) (p k : ℕ) (pos : 1 ≤ k)
    (solid : Solid f p k) (busy : (j : ℕ) → p ≤ j → j < p + k → (f j ≢ idle) × (f j ≢ edge)) where
  now_idle : (j : ℕ) → p ≤ j → j < p + k → fill f p k idle j ≡ idle
  now_idle j l u = fill_in f p k idle j l u

  same : (j : ℕ) → Out p k j → fill f p k idle j ≡ f j
  same j o = fill_out f p k idle j o

  in_size : p + k ≤ size
  in_size =
      let h : p + k - 1 < size = in_table ok (p + k - 1) (busy (p + k - 1) (omega arith) (omega arith)).1 in
      omega arith

  pub freed-table : TableOk size (fill f p k idle)
  freed-table =
      replaced ok p k in_size solid (record {
        solid = solid_idle (fill f p k idle) p k now_idle;
        run = λ j e l u. absurd (never (cc (now_idle p (omega arith) (omega arith))));
        good = λ j l u. rw (now_idle j l u) (tt, λ e. never (cc));
        same = same;
      })

  pub freed-runs : RunsOk (λ j. is_idle (fill f p k idle j)) (join_runs p k rs)
  freed-runs =
      released rok p k pos (λ j l u. not-idle (f j) (busy j l u).0) (λ j l u. ap is_idle (now_idle j l u)) (λ j o. ap is_idle (same j o))
