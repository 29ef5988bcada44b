-- Pages cut from the front of a free run, whatever they become: the table and the free runs.
use mathlib.Core.Path.{◌≡◌, ap}
use mathlib.Core.Logic.{◌≢◌}
use mathlib.Core.Option.{some}
use mathlib.Core.List.{List}
use Prim.Native.Nat.{ℕ, ◌+◌, ◌-◌, ◌≤◌, ◌<◌}
use native.Mathlib.Omega.{arith}
use Rattle.base.proofs.Cases.{never}
use Rattle.model.specs.State.{Page, idle, Run, is_idle}
use Rattle.model.specs.Runs.{fit, carve}
use Rattle.model.specs.WellFormed.{TableOk, RunsOk}
use Rattle.model.proofs.Runs.{fit_found, carved}
use Rattle.model.proofs.Table.{is_idle_lem, not-idle, in_table, solid_idle, Becomes, replaced}

module _ {size : ℕ} {f : ℕ → Page} {rs : List Run} (ok : TableOk size f) (rok : RunsOk (λ j. is_idle (f j)) rs)
    (k : ℕ) (pos : 1 ≤ k) (r : Run) (found : fit k rs ≡ some r) where
  -- the pages were free
  pub were_idle : (j : ℕ) → r.start ≤ j → j < r.start + k → f j ≡ idle
  were_idle j l u =
      let (m, fits) = fit_found k rs r found in
      is_idle_lem (f j) ((rok.sound r m).all_free j l (omega arith))

  pub in_size : r.start + k ≤ size
  in_size =
      let h : r.start + k - 1 < size = in_table ok (r.start + k - 1) (λ e. never (cc (were_idle (r.start + k - 1) (omega arith) (omega arith)))) in
      omega arith

  -- what the pages have become, none of them free
  module _ {f' : ℕ → Page} (b : Becomes f f' r.start k) (busy : (j : ℕ) → r.start ≤ j → j < r.start + k → f' j ≢ idle) where
    pub occupied_table : TableOk size f'
    occupied_table = replaced ok r.start k in_size (solid_idle f r.start k were_idle) b

    pub occupied_runs : RunsOk (λ j. is_idle (f' j)) (carve k rs)
    occupied_runs = carved rok k pos r found (λ j l u. not-idle (f' j) (busy j l u)) (λ j o. ap is_idle (b.same j o))
