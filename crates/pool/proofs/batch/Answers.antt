use Rattle.pool.proofs.Widths.{second, first}
use Rattle.pool.proofs.batch.Goals as goal

pub returns-then-is_second-clause-answer : goal.returns-then-is_second-clause-answer
returns-then-is_second-clause-answer c = rw (second c.args.pool.now c.is_second.result c.is_second.ensures c.if-is_second.true)
    (c.batch.ensures.answer)

pub returns-then-is_second-clause-pool : goal.returns-then-is_second-clause-pool
returns-then-is_second-clause-pool c = rw (second c.args.pool.now c.is_second.result c.is_second.ensures c.if-is_second.true)
    (c.batch.ensures.pool)

pub returns-then-is_second-clause-answers : goal.returns-then-is_second-clause-answers
returns-then-is_second-clause-answers c = rw (second c.args.pool.now c.is_second.result c.is_second.ensures c.if-is_second.true)
    (c.batch.ensures.answers)

pub returns-else-is_second-clause-answer : goal.returns-else-is_second-clause-answer
returns-else-is_second-clause-answer c = rw (first c.args.pool.now c.is_second.result c.is_second.ensures c.if-is_second.false)
    (c.batch-else-is_second.ensures.answer)

pub returns-else-is_second-clause-pool : goal.returns-else-is_second-clause-pool
returns-else-is_second-clause-pool c = rw (first c.args.pool.now c.is_second.result c.is_second.ensures c.if-is_second.false)
    (c.batch-else-is_second.ensures.pool)

pub returns-else-is_second-clause-answers : goal.returns-else-is_second-clause-answers
returns-else-is_second-clause-answers c = rw (first c.args.pool.now c.is_second.result c.is_second.ensures c.if-is_second.false)
    (c.batch-else-is_second.ensures.answers)
