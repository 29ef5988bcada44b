use Rattle.class_counting.proofs.Words.{fails_rise, fails-stop}
use Rattle.std.proofs.Common.{rules}
use Rattle.class_counting.proofs.fails_more.Goals as goal

pub returns-then-v : goal.returns-then-v
returns-then-v c = fails_rise _ (search rules) c.if-v.true

pub returns-else-v : goal.returns-else-v
returns-else-v c = fails-stop _ (search rules) c.if-v.false
