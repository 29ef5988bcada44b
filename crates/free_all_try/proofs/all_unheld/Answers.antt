use Rattle.branchless.proofs.Loops.{alls, all_more, all-fails}
use Rattle.free_all_try.proofs.all_unheld.Goals as goal

pub loop-i-init : goal.loop-i-init
loop-i-init c = search alls

pub returns-then-not-unheld_at : goal.returns-then-not-unheld_at
returns-then-not-unheld_at c = all-fails _ _ _ _ c.loop-i-test.true c.unheld_at.ensures c.if-not-unheld_at.true

pub loop-i-preserved : goal.loop-i-preserved
loop-i-preserved c = all_more _ _ _ c.unheld_at.ensures c.if-not-unheld_at.false c.loop-i.invariant

pub returns : goal.returns
returns c = search alls
