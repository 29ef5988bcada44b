-- The marks of a class page change: the table, the free runs and the other classes' lists stay.
use mathlib.Core.Path.{◌≡◌, sym, ap, ◌∙◌}
use mathlib.Core.Logic.{◌⊎◌, inl, inr, ◌≢◌}
use mathlib.Core.Bool.{Bool}
use Prim.Native.Nat.{ℕ}
use native.Mathlib.Omega.{arith}
use Rattle.base.specs.Functions.{upd}
use Rattle.base.proofs.Cases.{never, eq?}
use Rattle.base.proofs.Functions.{upd_same, upd_other, upd_out}
use Rattle.model.specs.State.{idle, slab, State, is_idle, is_open}
use Rattle.model.specs.WellFormed.{ClassOk, TableOk, RunsOk, WellFormed}
use Rattle.model.specs.Effects.{SlabsFrom}
use Rattle.model.proofs.Runs.{runs_same}
use Rattle.model.proofs.Table.{in_table, solid_slab, replaced}
use Rattle.model.proofs.Lists.{open_other}

module _ {s : State} (wf : WellFormed s) (p c : ℕ) (m m' : ℕ → Bool) (was : s.page p ≡ slab c m) where
  pub head : upd s.page p (slab c m') p ≡ slab c m'
  head = upd_same s.page p (slab c m')

  pub other : (j : ℕ) → j ≢ p → upd s.page p (slab c m') j ≡ s.page j
  other j n = upd_other s.page p (slab c m') j n

  pub marked-table : ClassOk c m' → TableOk s.size (upd s.page p (slab c m'))
  marked-table ok =
      replaced wf.table p 1 (omega (arith, in_table wf.table p (λ e. never (cc)))) (solid_slab s.page p c m was) (record {
        solid = solid_slab (upd s.page p (slab c m')) p c m' head;
        run = λ j e. absurd (never (cc head));
        good = λ j l u. let q : j ≡ p = omega arith in rw (q, head) (ok, λ e. never (cc));
        same = upd_out s.page p (slab c m');
      })

  pub marked-runs : RunsOk (λ j. is_idle (upd s.page p (slab c m') j)) s.runs
  marked-runs = runs_same wf.free_runs (λ j. go j (eq? j p))
    where
      go : (j : ℕ) → (j ≡ p) ⊎ (j ≢ p) → is_idle (upd s.page p (slab c m') j) ≡ is_idle (s.page j)
      go j (inl q) = rw (q, head, was)
      go j (inr q) = ap is_idle (other j q)

  pub marked-others : (d j : ℕ) → d ≢ c → is_open d (upd s.page p (slab c m') j) ≡ is_open d (s.page j)
  marked-others d j n = go (eq? j p)
    where
      go : (j ≡ p) ⊎ (j ≢ p) → is_open d (upd s.page p (slab c m') j) ≡ is_open d (s.page j)
      go (inl q) = rw (q, head, was) (open_other c d m' n ∙ sym (open_other c d m n))
      go (inr q) = ap (is_open d) (other j q)

  pub marked-slabs : SlabsFrom s.page (upd s.page p (slab c m'))
  marked-slabs q d k h = go (eq? q p)
    where
      go : (q ≡ p) ⊎ (q ≢ p) → ((m : ℕ → Bool) × (s.page q ≡ slab d m)) ⊎ (s.page q ≡ idle)
      go (inl z) = let y : d ≡ c = cc (head, ap (upd s.page p (slab c m')) z) in inl (m, ap s.page z ∙ was ∙ ap (λ (n : ℕ). slab n m) (sym y))
      go (inr z) = inl (k, sym (other q z) ∙ h)
