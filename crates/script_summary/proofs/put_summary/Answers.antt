use Rattle.script_summary.specs.Summary.{summary_of}
use Rattle.script_summary.proofs.put_summary.Goals as goal

pub returns : goal.returns
unfolding summary_of
returns c = rw (c.free_runs-runs.ensures, c.get_header-h.ensures) at c.put_counts.ensures
