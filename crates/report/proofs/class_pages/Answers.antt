use native.Mathlib.Omega.{arith}
use Rattle.report.proofs.Classes.{counted-some}
use Rattle.report.proofs.class_pages.Goals as goal

pub nonzero_div-result : goal.nonzero_div-result
nonzero_div-result c = omega (arith, counted-some c.args.c c.requires, c.total_count-each.ensures)

pub returns : goal.returns
returns c = rw c.total_count-each.ensures
