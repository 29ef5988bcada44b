use native.Mathlib.Omega.{arith}
use Rattle.branchless.proofs.Loops.{all_none, all_more, all-fails, all_done}
use Rattle.check_mended.proofs.same_pages.Goals as goal

pub loop-p-init : goal.loop-p-init
loop-p-init c = all_none _

pub returns-then-not-same_page : goal.returns-then-not-same_page
returns-then-not-same_page c = all-fails _ _ _ _ c.loop-p-test.true c.same_page.ensures c.if-not-same_page.true

pub loop-p-preserved : goal.loop-p-preserved
loop-p-preserved c = all_more _ _ _ c.same_page.ensures c.if-not-same_page.false c.loop-p.invariant

pub returns : goal.returns
returns c = all_done _ _ _ (omega arith) c.loop-p-test.false c.loop-p.invariant
