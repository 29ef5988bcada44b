use mathlib.Core.Path.{◌≡◌}
use Rattle.base.specs.Tests.{all_below}
use Rattle.mending.specs.Checked.{same_byte_from}
use Rattle.check_mended.proofs.same_from.Given as goal

abbrev pub invariant-loop-i : goal.invariant-loop-i
invariant-loop-i l = l.same ≡ all_below (same_byte_from l.from l.s l.t) l.i
