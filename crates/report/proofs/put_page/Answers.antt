use Rattle.report_lines.specs.Lines.{block_line}
use Rattle.report.proofs.Spans.{no_line}
use Rattle.report.proofs.Chunks.{class-lines, taken-lines, other_page}
use Rattle.report.proofs.put_page.Goals as goal

pub put_chunks-requires : goal.put_chunks-requires
put_chunks-requires c = (c.requires.0, c.requires.1 c.if-l-eq-CLASS_PAGE.true, c.requires.2)

pub returns-then-l-eq-CLASS_PAGE : goal.returns-then-l-eq-CLASS_PAGE
returns-then-l-eq-CLASS_PAGE c = class-lines _ _ _ _ _ _ _ _ _ c.if-l-eq-CLASS_PAGE.true c.put_chunks.ensures

pub returns-then-l-eq-FIRST_TAKEN : goal.returns-then-l-eq-FIRST_TAKEN
returns-then-l-eq-FIRST_TAKEN c = taken-lines _ _ _ _ _ _ _ _ _ _ c.if-l-eq-FIRST_TAKEN.true c.offset_in.ensures c.put_pages.ensures

pub returns : goal.returns
returns c = no_line block_line _ _ _ (other_page _ _ _ _ _ c.if-l-eq-CLASS_PAGE.false c.if-l-eq-FIRST_TAKEN.false)
