use mathlib.Core.Path.{refl}
use Rattle.mend_order.proofs.Search.{found_last, more_last, none_last}
use Rattle.mend_order.proofs.last_below.Goals as goal

pub loop-at-init : goal.loop-at-init
loop-at-init c = refl

pub returns-then-on_list : goal.returns-then-on_list
returns-then-on_list c = found_last _ _ _ _ c.loop-at-test.true c.on_list.ensures c.if-on_list.true c.loop-at.invariant

pub loop-at-preserved : goal.loop-at-preserved
loop-at-preserved c = more_last _ _ _ _ c.loop-at-test.true c.on_list.ensures c.if-on_list.false c.loop-at.invariant

pub returns : goal.returns
returns c = none_last _ _ _ c.loop-at-test.false c.loop-at.invariant
