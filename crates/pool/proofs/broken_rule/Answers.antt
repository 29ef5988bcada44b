use Rattle.pool.proofs.Widths.{second, first}
use Rattle.pool.proofs.broken_rule.Goals as goal

pub returns-then-is_second : goal.returns-then-is_second
returns-then-is_second c = rw (second c.args.pool.now c.is_second.result c.is_second.ensures c.if-is_second.true) c.broken_rule.ensures

pub returns-else-is_second : goal.returns-else-is_second
returns-else-is_second c = rw (first c.args.pool.now c.is_second.result c.is_second.ensures c.if-is_second.false) c.broken_rule-else-is_second.ensures
