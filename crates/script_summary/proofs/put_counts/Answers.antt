use Rattle.script_summary.proofs.Counting.{counts_do}
use Rattle.script_summary.proofs.put_counts.Goals as goal

pub returns : goal.returns
returns c = counts_do _ _ _ _ _ _ _ _ c.put_phrase-after.ensures c.put_line.ensures
