use Rattle.branchless.proofs.Loops.{alls}
use Rattle.validate_counts.proofs.all_counts.Goals as goal

pub loop-c-init : goal.loop-c-init
loop-c-init c = search alls

pub class_counts-requires : goal.class_counts-requires
class_counts-requires c = (c.requires, c.loop-c-test.true)

pub returns-then-not-class_counts : goal.returns-then-not-class_counts
returns-then-not-class_counts c = search alls

pub loop-c-preserved : goal.loop-c-preserved
loop-c-preserved c = search alls

pub returns : goal.returns
returns c = search alls
