use Rattle.free_all_try.proofs.Steps.{kinds, kind_here, kind-next}
use Rattle.free_all_try.proofs.first_kind.Goals as goal

pub returns-then-l-eq-FIRST_TAKEN : goal.returns-then-l-eq-FIRST_TAKEN
returns-then-l-eq-FIRST_TAKEN c = kind_here _ _ _ _ _ c.loop-i-test.true c.get_links-l.ensures c.if-l-eq-FIRST_TAKEN.true c.loop-i.invariant

pub loop-i-preserved : goal.loop-i-preserved
loop-i-preserved c = kind-next _ _ _ _ _ c.loop-i-test.true c.get_links-l.ensures c.if-l-eq-FIRST_TAKEN.false c.loop-i.invariant

pub returns : goal.returns
returns c = search kinds
