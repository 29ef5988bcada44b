use mathlib.Core.Path.{◌≡◌}
use Prim.Native.Nat.{◌-◌}
use Rattle.run_extents.specs.Mirror.{fit_from, fit_in}
use Rattle.run_extents.proofs.first_fit.Given as goal

abbrev pub invariant-loop : goal.invariant-loop
invariant-loop l = fit_from l.w l.pool (l.pages - l.counter) l.k l.p.0 ≡ fit_in l.w l.pool l.pages l.k
