use mathlib.Core.Path.{◌≡◌}
use Rattle.run_extents.specs.Mirror.{filled}
use Rattle.run_records.proofs.fill.Given as goal

abbrev pub invariant-loop-i : goal.invariant-loop-i
invariant-loop-i l = l.pool ≡ filled l.w l.initial.pool l.p.0 l.i l.l
