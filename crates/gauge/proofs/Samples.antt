-- Samples of a round, by the tests of a gauge.
use mathlib.Core.Path.{◌≡◌, refl, sym}
use mathlib.Core.Logic.{◌⊎◌, ◌≢◌, inl, inr}
use mathlib.Core.Bool.{true}
use Prim.Native.Nat.{ℕ, ◌≤◌, ◌<◌}
use native.Mathlib.Omega.{arith}
use lib.Dec.{leb}
use borrow.Author.Tests.{leb-true}
use Rattle.base.proofs.Tests.{both_true, pick_eq, pick_ne}
use Rattle.base.proofs.Cases.{eq?}
use Rattle.gauge.specs.declared.Gauge.{Gauge}
use Rattle.gauge.specs.Gauge.{usable, takes, fresh, begun}

pub begun-full : (g : Gauge) → g.samples ≡ 40 → begun g ≡ fresh g.level
unfolding begun
begun-full g h = sym (pick_eq _ _ g.samples 40 h refl)

pub begun_open : (g : Gauge) → g.samples ≢ 40 → begun g ≡ g
unfolding begun
begun_open g h = sym (pick_ne _ _ g.samples 40 h refl)

-- a round that is begun has room for a sample
pub begun-few : (g : Gauge) → g.samples ≤ 40 → (begun g).samples < 40
begun-few g h = go (eq? g.samples 40)
  where
    go : (g.samples ≡ 40) ⊎ (g.samples ≢ 40) → (begun g).samples < 40
    go (inl e) = rw (begun-full g e) (unfold fresh in omega arith)
    go (inr e) = rw (begun_open g e) (omega (arith, e))

pub takes-few : (g : Gauge) (n : ℕ) → takes g n ≡ true → g.samples ≤ 40
unfolding takes usable
takes-few g n e = leb-true g.samples 40 (both_true (leb g.samples 40) _ (both_true (usable g) (leb n 4096) e).0).0
