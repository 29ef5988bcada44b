use Rattle.pool.proofs.Widths.{second, first}
use Rattle.keeper.proofs.find.Goals as goal

pub returns-then-is_second : goal.returns-then-is_second
returns-then-is_second c = rw (second c.args.pool.now c.is_second.result c.is_second.ensures c.if-is_second.true) c.find.ensures

pub returns-else-is_second : goal.returns-else-is_second
returns-else-is_second c = rw (first c.args.pool.now c.is_second.result c.is_second.ensures c.if-is_second.false) c.find-else-is_second.ensures
