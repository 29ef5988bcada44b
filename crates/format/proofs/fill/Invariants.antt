use mathlib.Core.Path.{◌≡◌}
use Rattle.format.specs.Mirror.{filled}
use Rattle.format.proofs.fill.Given as goal

abbrev pub invariant-loop-i : goal.invariant-loop-i
invariant-loop-i l = l.pool ≡ filled l.initial.pool l.from l.step l.i l.v
