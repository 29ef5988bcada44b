use Rattle.pool.proofs.Widths.{second, first}
use Rattle.pool.proofs.mend.Goals as goal

pub returns-then-is_second-clause-answer : goal.returns-then-is_second-clause-answer
returns-then-is_second-clause-answer c = rw (second c.args.damaged.now c.is_second.result c.is_second.ensures c.if-is_second.true)
    (c.mend.ensures.answer)

pub returns-then-is_second-clause-slice : goal.returns-then-is_second-clause-slice
returns-then-is_second-clause-slice c = rw (second c.args.damaged.now c.is_second.result c.is_second.ensures c.if-is_second.true)
    (c.mend.ensures.slice)

pub returns-else-is_second-clause-answer : goal.returns-else-is_second-clause-answer
returns-else-is_second-clause-answer c = rw (first c.args.damaged.now c.is_second.result c.is_second.ensures c.if-is_second.false)
    (c.mend-else-is_second.ensures.answer)

pub returns-else-is_second-clause-slice : goal.returns-else-is_second-clause-slice
returns-else-is_second-clause-slice c = rw (first c.args.damaged.now c.is_second.result c.is_second.ensures c.if-is_second.false)
    (c.mend-else-is_second.ensures.slice)
