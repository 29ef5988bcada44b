use Rattle.pool.proofs.Widths.{second, first}
use Rattle.keeper.proofs.put.Goals as goal

pub returns-then-is_second-clause-answer : goal.returns-then-is_second-clause-answer
returns-then-is_second-clause-answer c = rw (second c.args.pool.now c.is_second.result c.is_second.ensures c.if-is_second.true)
    (c.put.ensures.answer)

pub returns-then-is_second-clause-pool : goal.returns-then-is_second-clause-pool
returns-then-is_second-clause-pool c = rw (second c.args.pool.now c.is_second.result c.is_second.ensures c.if-is_second.true)
    (c.put.ensures.pool)

pub returns-then-is_second-clause-directory : goal.returns-then-is_second-clause-directory
returns-then-is_second-clause-directory c = rw (second c.args.pool.now c.is_second.result c.is_second.ensures c.if-is_second.true)
    (c.put.ensures.directory)

pub returns-else-is_second-clause-answer : goal.returns-else-is_second-clause-answer
returns-else-is_second-clause-answer c = rw (first c.args.pool.now c.is_second.result c.is_second.ensures c.if-is_second.false)
    (c.put-else-is_second.ensures.answer)

pub returns-else-is_second-clause-pool : goal.returns-else-is_second-clause-pool
returns-else-is_second-clause-pool c = rw (first c.args.pool.now c.is_second.result c.is_second.ensures c.if-is_second.false)
    (c.put-else-is_second.ensures.pool)

pub returns-else-is_second-clause-directory : goal.returns-else-is_second-clause-directory
returns-else-is_second-clause-directory c = rw (first c.args.pool.now c.is_second.result c.is_second.ensures c.if-is_second.false)
    (c.put-else-is_second.ensures.directory)
