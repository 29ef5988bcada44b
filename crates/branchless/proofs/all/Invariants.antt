use mathlib.Core.Path.{◌≡◌}
use lib.ListN.{take}
use Rattle.base.specs.Tests.{all_of}
use Rattle.branchless.proofs.all.Given as goal

abbrev pub invariant-loop-t : goal.invariant-loop-t
invariant-loop-t g l = l.holds ≡ all_of (take l.t-index l.tests)
