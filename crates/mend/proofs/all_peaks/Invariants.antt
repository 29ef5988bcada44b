use mathlib.Core.Path.{◌≡◌}
use Rattle.mend.specs.Mirror.{peaks_below}
use Rattle.mend.proofs.all_peaks.Given as goal

abbrev pub invariant-loop-c : goal.invariant-loop-c
invariant-loop-c l = l.target ≡ peaks_below l.w l.damaged l.n l.initial.target l.c
