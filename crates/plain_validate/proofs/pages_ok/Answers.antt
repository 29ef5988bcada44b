use Rattle.branchless.proofs.Loops.{all-fails}
use Rattle.plain_validate.proofs.pages_ok.Goals as goal

pub returns-then-not-page_ok : goal.returns-then-not-page_ok
returns-then-not-page_ok c = all-fails _ _ _ _ c.loop-p-test.true c.page_ok.ensures c.if-not-page_ok.true
