use Rattle.branchless.proofs.Loops.{all-fails}
use Rattle.plain_kinds.proofs.all_inside.Goals as goal

pub returns-then-not-is_inside : goal.returns-then-not-is_inside
returns-then-not-is_inside c = all-fails _ _ _ _ c.loop-i-test.true c.is_inside.ensures c.if-not-is_inside.true
