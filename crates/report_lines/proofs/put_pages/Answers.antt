use Rattle.report_lines.specs.Lines.{block_line}
use Rattle.report_lines.proofs.put_pages.Goals as goal

pub returns : goal.returns
unfolding block_line
returns c = c.put_pair.ensures
