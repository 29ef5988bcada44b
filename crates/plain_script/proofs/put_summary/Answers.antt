use Rattle.script_summary.proofs.Counting.{counts_do}
use Rattle.plain_script.proofs.put_summary.Goals as goal

pub returns : goal.returns
returns c = rw (← c.count_runs-runs.ensures) (counts_do _ _ _ _ _ _ _ _ c.put_phrase-after.ensures c.put_line.ensures)
