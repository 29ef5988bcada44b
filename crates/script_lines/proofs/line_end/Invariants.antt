use Rattle.script_lines.proofs.Split.{Plain}
use Rattle.script_lines.proofs.line_end.Given as goal

abbrev pub invariant-loop-end : goal.invariant-loop-end
invariant-loop-end l = Plain l.input l.at l.end
