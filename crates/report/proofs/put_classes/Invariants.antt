use Rattle.rules.specs.Bytes.{read}
use Rattle.printing.specs.Text.{Prints}
use Rattle.report.specs.Report.{classes_below}
use Rattle.report.proofs.put_classes.Given as goal

abbrev pub invariant-loop-c : goal.invariant-loop-c
invariant-loop-c l = Prints l.initial.out l.out l.n l.next (classes_below (read 2 l.image) l.c)
