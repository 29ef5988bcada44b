use mathlib.Core.Path.{◌≡◌}
use mathlib.Core.Bool.{true}
use Rattle.base.specs.Tests.{all_below}
use Rattle.rules.specs.Bytes.{peak_fits}
use Rattle.validate_counts.proofs.all_peaks.Given as goal

abbrev pub invariant-loop-c : goal.invariant-loop-c
invariant-loop-c l = all_below (peak_fits l.w l.pool) l.c ≡ true
