use mathlib.Core.Path.{◌≡◌}
use Rattle.copying.specs.Lay.{lay}
use Rattle.copying.proofs.copy.Given as goal

abbrev pub invariant-loop-i : goal.invariant-loop-i
invariant-loop-i l = l.target ≡ lay l.to l.from l.source l.i l.initial.target
