use lib.Ieee as Ieee
use Rattle.base.specs.Tests.{pick}
use Rattle.gauge.specs.Gauge.{in_range}
use Rattle.gauge.proofs.in_range.Goals as goal

pub returns-then-x : goal.returns-then-x
unfolding in_range pick Ieee.of_bits
returns-then-x c = rw c.if-x.true

pub returns-else-x : goal.returns-else-x
unfolding in_range pick Ieee.of_bits
returns-else-x c = rw c.if-x.false
