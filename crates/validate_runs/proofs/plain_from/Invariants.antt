use mathlib.Core.Path.{◌≡◌}
use mathlib.Core.Bool.{true}
use Prim.Native.Nat.{◌+◌}
use Rattle.base.specs.Tests.{all_below}
use Rattle.validate_runs.specs.Mirror.{plain_at}
use Rattle.validate_runs.proofs.plain_from.Given as goal

abbrev pub invariant-loop-i : goal.invariant-loop-i
invariant-loop-i l = all_below (λ j. plain_at l.w l.pool l.v (l.start + j)) l.i ≡ true
