use Rattle.report_lines.specs.Lines.{span_line}
use Rattle.report_lines.proofs.put_taken_run.Goals as goal

pub returns : goal.returns
unfolding span_line
returns c = c.put_pair.ensures
