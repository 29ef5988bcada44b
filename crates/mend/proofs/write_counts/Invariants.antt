use mathlib.Core.Path.{◌≡◌}
use Rattle.mend.specs.Mirror.{counts_below}
use Rattle.mend.proofs.write_counts.Given as goal

abbrev pub invariant-loop-c : goal.invariant-loop-c
invariant-loop-c l = l.target ≡ counts_below l.w l.damaged l.n l.initial.target l.c
