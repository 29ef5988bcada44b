use Rattle.model.specs.Live.{chunks_on}
use Rattle.rules.specs.Bytes.{mark_at}
use Rattle.printing.specs.Text.{lines_of, Prints}
use Rattle.report_lines.specs.Lines.{block_line}
use Rattle.report.proofs.put_chunks.Given as goal

abbrev pub invariant-loop-i : goal.invariant-loop-i
invariant-loop-i l = Prints l.initial.out l.out l.n l.next (lines_of block_line (chunks_on l.c l.p (mark_at 2 l.image l.p l.c) l.i))
