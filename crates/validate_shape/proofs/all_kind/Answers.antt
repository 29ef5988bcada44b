use Rattle.rules.specs.Rules.{kind_from}
use Rattle.branchless.proofs.Loops.{alls, all_more, all-fails}
use Rattle.validate_shape.proofs.all_kind.Goals as goal

pub loop-i-init : goal.loop-i-init
loop-i-init c = search alls

pub returns-then-not-kind_is : goal.returns-then-not-kind_is
unfolding kind_from
returns-then-not-kind_is c = all-fails _ _ _ _ c.loop-i-test.true c.kind_is.ensures c.if-not-kind_is.true

pub loop-i-preserved : goal.loop-i-preserved
unfolding kind_from
loop-i-preserved c = all_more _ _ _ c.kind_is.ensures c.if-not-kind_is.false c.loop-i.invariant

pub returns : goal.returns
returns c = search alls
