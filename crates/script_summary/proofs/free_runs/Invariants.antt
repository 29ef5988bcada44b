use Rattle.script_summary.proofs.Counting.{Seen}
use Rattle.script_summary.proofs.free_runs.Given as goal

abbrev pub invariant-loop-p : goal.invariant-loop-p
invariant-loop-p l = Seen l.w l.pool l.n l.p l.runs
