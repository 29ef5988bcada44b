use mathlib.Core.Path.{◌≡◌}
use mathlib.Core.Bool.{true}
use Rattle.base.specs.Tests.{all_below}
use Rattle.free_all_try.specs.Mirror.{unheld_at}
use Rattle.free_all_try.proofs.all_unheld.Given as goal

abbrev pub invariant-loop-i : goal.invariant-loop-i
invariant-loop-i l = all_below (unheld_at l.pool l.base l.owned) l.i ≡ true
