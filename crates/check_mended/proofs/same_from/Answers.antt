use native.Mathlib.Omega.{arith}
use Rattle.check_mended.proofs.Steps.{and_none, and_more, and_done}
use Rattle.check_mended.proofs.same_from.Goals as goal

pub loop-i-init : goal.loop-i-init
loop-i-init c = and_none _

pub loop-i-preserved : goal.loop-i-preserved
loop-i-preserved c = and_more _ _ _ _ _ c.same_byte.ensures c.loop-i.invariant c.both-same.ensures

pub returns : goal.returns
returns c = and_done _ _ _ _ (omega arith) c.loop-i-test.false c.loop-i.invariant
