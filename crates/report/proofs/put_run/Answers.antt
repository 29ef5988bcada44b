use Rattle.report_lines.specs.Lines.{span_line}
use Rattle.report.proofs.Spans.{one_line, no_line, free_kind, taken-kind, other_kind}
use Rattle.report.proofs.put_run.Goals as goal

pub returns-then-kind-eq-FIRST_FREE : goal.returns-then-kind-eq-FIRST_FREE
returns-then-kind-eq-FIRST_FREE c = one_line span_line _ _ _ _ _ _ (free_kind _ _ _ c.if-kind-eq-FIRST_FREE.true) c.put_free_run.ensures

pub returns-then-kind-eq-FIRST_TAKEN : goal.returns-then-kind-eq-FIRST_TAKEN
returns-then-kind-eq-FIRST_TAKEN c = one_line span_line _ _ _ _ _ _ (taken-kind _ _ _ c.if-kind-eq-FIRST_FREE.false c.if-kind-eq-FIRST_TAKEN.true) c.put_taken_run.ensures

pub returns : goal.returns
returns c = no_line span_line _ _ _ (other_kind _ _ _ c.if-kind-eq-FIRST_FREE.false c.if-kind-eq-FIRST_TAKEN.false)
