use Rattle.model.specs.Live.{blocks_below}
use Rattle.rules.specs.Bytes.{read}
use Rattle.printing.specs.Text.{lines_of, Prints}
use Rattle.report_lines.specs.Lines.{block_line}
use Rattle.report.proofs.put_blocks.Given as goal

abbrev pub invariant-loop-p : goal.invariant-loop-p
invariant-loop-p l = Prints l.initial.out l.out l.n l.next (lines_of block_line (blocks_below (read 2 l.image).page l.p))
