use mathlib.Core.Path.{◌≡◌}
use Rattle.free_all_try.specs.Mirror.{first_kind}
use Rattle.free_all_try.proofs.first_kind.Given as goal

abbrev pub invariant-loop-i : goal.invariant-loop-i
invariant-loop-i l = first_kind l.w l.pool l.i ≡ first_kind l.w l.pool l.p
