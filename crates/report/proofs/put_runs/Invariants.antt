use Rattle.model.specs.View.{shown}
use Rattle.rules.specs.Bytes.{read}
use Rattle.printing.specs.Text.{lines_of, Prints}
use Rattle.report_lines.specs.Lines.{span_line}
use Rattle.report.specs.Report.{spans_below}
use Rattle.report.proofs.put_runs.Given as goal

abbrev pub invariant-loop-p : goal.invariant-loop-p
invariant-loop-p l = Prints l.initial.out l.out l.n l.next (lines_of span_line (spans_below (shown (read 2 l.image)) l.p))
