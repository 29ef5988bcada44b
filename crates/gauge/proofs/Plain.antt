-- Tests of a gauge in plain form.
use mathlib.Core.Path.{◌≡◌}
use mathlib.Core.Bool.{true, false}
use Prim.Native.Nat.{ℕ, ◌≤◌}
use lib.Dec.{leb}
use borrow.Author.Tests.{leb-true, le-leb}
use Rattle.base.specs.Tests.{pick}
use Rattle.base.proofs.Tests.{both_true}
use Rattle.base.proofs.Cases.{decided}
use Rattle.gauge.specs.declared.Gauge.{Gauge}
use Rattle.gauge.specs.Gauge.{in_range, usable, takes, begun, advanced, sampled}
use Rattle.gauge.specs.Claim.{Usable}
use Rattle.gauge.proofs.Ranges.{range_in, range_is}

pub usable_in : (g : Gauge) → usable g ≡ true → Usable g
unfolding usable
usable_in g e =
    let a = both_true (leb g.samples 40) _ e in
    let b = both_true (in_range g.load) (in_range g.level) a.1 in
    record { few = leb-true g.samples 40 a.0; load = range_in g.load b.0; level = range_in g.level b.1 }

pub usable-is : (g : Gauge) → Usable g → usable g ≡ true
unfolding usable pick
usable-is g u = rw (le-leb g.samples 40 u.few, range_is g.load u.load, range_is g.level u.level)

pub takes-is : (g : Gauge) (n : ℕ) → Usable g → n ≤ 4096 → takes g n ≡ true
unfolding takes pick
takes-is g n u h = rw (usable-is g u, le-leb n 4096 h)

pub takes-not : (g : Gauge) (n : ℕ) → ¬ (Usable g × (n ≤ 4096)) → takes g n ≡ false
unfolding takes
takes-not g n h = decided (takes g n) (λ e. let a = both_true (usable g) (leb n 4096) e in h (usable_in g a.0, leb-true n 4096 a.1))

pub sampled-is : (g : Gauge) (n : ℕ) → Usable g → n ≤ 4096 → sampled g n ≡ advanced (begun g) n
unfolding sampled pick
sampled-is g n u h = rw (takes-is g n u h)

pub sampled-not : (g : Gauge) (n : ℕ) → ¬ (Usable g × (n ≤ 4096)) → sampled g n ≡ g
unfolding sampled pick
sampled-not g n h = rw (takes-not g n h)
