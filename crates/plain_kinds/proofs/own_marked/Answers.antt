use Rattle.branchless.proofs.Loops.{all-fails}
use Rattle.plain_kinds.proofs.own_marked.Goals as goal

pub returns-then-not-is_marked : goal.returns-then-not-is_marked
returns-then-not-is_marked c = all-fails _ _ _ _ c.loop-i-test.true c.is_marked.ensures c.if-not-is_marked.true
