use Rattle.std.proofs.Common.{arith}
use Rattle.class_counting.proofs.page_used.Goals as goal

pub returns : goal.returns
returns c = omega (arith, c.total_count.ensures)
