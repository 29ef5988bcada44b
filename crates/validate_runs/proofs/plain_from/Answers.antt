use Rattle.branchless.proofs.Loops.{alls, all_more, all-fails}
use Rattle.validate_runs.specs.Mirror.{plain_from}
use Rattle.validate_runs.proofs.plain_from.Goals as goal

pub loop-i-init : goal.loop-i-init
loop-i-init c = search alls

pub returns-then-not-plain_at : goal.returns-then-not-plain_at
unfolding plain_from
returns-then-not-plain_at c = all-fails _ _ _ _ c.loop-i-test.true c.plain_at.ensures c.if-not-plain_at.true

pub loop-i-preserved : goal.loop-i-preserved
loop-i-preserved c = all_more _ _ _ c.plain_at.ensures c.if-not-plain_at.false c.loop-i.invariant

pub returns : goal.returns
unfolding plain_from
returns c = search alls
