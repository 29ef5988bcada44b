use mathlib.Core.Path.{◌≡◌}
use Rattle.convert.proofs.Steps.{peaks_below}
use Rattle.convert.proofs.set_peaks.Given as goal

abbrev pub invariant-loop-c : goal.invariant-loop-c
invariant-loop-c l = l.target ≡ peaks_below l.c l.source l.initial.target
