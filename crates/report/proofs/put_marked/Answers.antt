use Rattle.report_lines.specs.Lines.{block_line}
use Rattle.report.proofs.Spans.{one_line, no_line}
use Rattle.report.proofs.Chunks.{own-chunk, taken-chunk, clear_chunk}
use Rattle.report.proofs.put_marked.Goals as goal

pub returns-then-i-own : goal.returns-then-i-own
returns-then-i-own c = no_line block_line _ _ _ (own-chunk _ _ _ _ _ c.if-i-own.true)

pub returns-then-marked : goal.returns-then-marked
returns-then-marked c = one_line block_line _ _ _ _ _ _ (taken-chunk _ _ _ _ _ c.if-i-own.false c.if-marked.true) c.put_chunk.ensures

pub returns : goal.returns
returns c = no_line block_line _ _ _ (clear_chunk _ _ _ _ _ c.if-i-own.false c.if-marked.false)
