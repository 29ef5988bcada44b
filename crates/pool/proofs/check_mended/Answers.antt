use Rattle.pool.proofs.Widths.{second, first}
use Rattle.pool.proofs.check_mended.Goals as goal

pub returns-then-is_second : goal.returns-then-is_second
returns-then-is_second c = rw (second c.args.damaged.now c.is_second.result c.is_second.ensures c.if-is_second.true) c.check_mended.ensures

pub returns-else-is_second : goal.returns-else-is_second
returns-else-is_second c = rw (first c.args.damaged.now c.is_second.result c.is_second.ensures c.if-is_second.false) c.check_mended-else-is_second.ensures
