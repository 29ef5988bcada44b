-- A table of 12 entries has an empty place while a page of the 12 is not free.
use mathlib.Core.Path.{◌≡◌, refl, sym, ap}
use mathlib.Core.Logic.{◌⊎◌, inl, inr, ◌≢◌}
use mathlib.Core.Bool.{Bool, true, false}
use mathlib.Core.List.{List, [], ◌∷◌}
use Prim.Native.Nat.{ℕ, suc, ◌+◌, ◌≤◌, ◌<◌}
use native.Mathlib.Omega.{arith}
use lib.ListN.{length}
use Rattle.base.specs.Count.{sum, count}
use Rattle.base.specs.Lists.{Mem, NoDup}
use Rattle.base.proofs.Cases.{eq?, clash}
use Rattle.base.proofs.Lists.{mem_cast}
use Rattle.base.proofs.Pigeonhole.{length-count}
use Rattle.model.specs.State.{Run}
use Rattle.model.specs.WellFormed.{Stretch, RunsOk}
use Rattle.model.proofs.Runs.{same_run}
use Rattle.plain.specs.declared.Extent.{Extent}
use Rattle.plain.specs.Table.{read_runs}
use Rattle.plain.proofs.Table.{HasPlace, read_none, read-run}

-- a table without an empty place shows as many runs as it has entries
pub place? : (t : List Extent) → HasPlace t ⊎ (length (read_runs t) ≡ length t)
place? [] = inr (rw read_none)
place? (e ∷ t) = go (eq? e.len 0) (place? t)
  where
    go : (e.len ≡ 0) ⊎ (e.len ≢ 0) → HasPlace t ⊎ (length (read_runs t) ≡ length t) → HasPlace (e ∷ t) ⊎ (length (read_runs (e ∷ t)) ≡ suc (length t))
    go (inl v) ih = inl (0, omega arith, v)
    go (inr v) (inl (i, l, z)) = inl (suc i, omega arith, z)
    go (inr v) (inr n) = inr (rw (read-run e t v) (ap suc n))

-- the first pages of runs
abbrev starts : List Run → List ℕ
starts [] = []
starts (r ∷ rs) = r.start ∷ starts rs

starts-mem : (x : ℕ) (rs : List Run) → Mem x (starts rs) → (r : Run) × Mem r rs × (r.start ≡ x)
starts-mem x (r ∷ rs) (inl e) = (r, inl refl, sym e)
starts-mem x (r ∷ rs) (inr m) = let (y, n, e) = starts-mem x rs m in (y, inr n, e)
starts-mem x [] x'' = elim x'' [ ]

starts-length : (rs : List Run) → length (starts rs) ≡ length rs
starts-length [] = refl
starts-length (r ∷ rs) = ap suc (starts-length rs)

starts-once : {g : ℕ → Bool} (rs : List Run) → NoDup rs → ((r : Run) → Mem r rs → Stretch g r) → NoDup (starts rs)
starts-once [] d h = tt
starts-once (r ∷ rs) d h = (λ m. side (starts-mem r.start rs m), starts-once rs d.1 (λ x m. h x (inr m)))
  where
    side : (y : Run) × Mem y rs × (y.start ≡ r.start) → ⊥
    side (y, m, e) =
        let Y = h y (inr m) in
        let R = h r (inl refl) in
        d.0 (mem_cast rs (same_run R Y r.start (omega arith) (omega (arith, R.some-page)) (omega arith) (omega (arith, Y.some-page))) m)

-- each of 12 pages but one may start a run
pub has-place : {g : ℕ → Bool} (t : List Extent) → RunsOk g (read_runs t) → length t ≡ 12 → ((r : Run) → Mem r (read_runs t) → r.start + r.len ≤ 12)
    → (p : ℕ) → p < 12 → g p ≡ false → HasPlace t
has-place {g} t ok l low p h busy = go (place? t)
  where
    all : ℕ → Bool
    all j = true

    list : List ℕ
    list = p ∷ starts (read_runs t)

    once : NoDup list
    once = (λ m. new (starts-mem p (read_runs t) m), starts-once (read_runs t) ok.once ok.sound)
      where
        new : (r : Run) × Mem r (read_runs t) × (r.start ≡ p) → ⊥
        new (r, m, e) = clash ((ok.sound r m).all_free p (omega arith) (omega (arith, (ok.sound r m).some-page))) busy

    below : (q : ℕ) → Mem q list → (q < 12) × (all q ≡ true)
    below q (inl e) = (omega arith, refl)
    below q (inr m) = let (r, n, e) = starts-mem q (read_runs t) m in (omega (arith, low r n, (ok.sound r n).some-page), refl)

    full : count all 12 ≡ 12
    full = unfold count in unfold sum in refl

    go : HasPlace t ⊎ (length (read_runs t) ≡ length t) → HasPlace t
    go (inl y) = y
    go (inr n) = absurd (omega (arith, length-count all 12 list once below, full, starts-length (read_runs t), n))
