use Rattle.branchless.proofs.Loops.{alls}
use Rattle.validate_lists.proofs.class_lists.Goals as goal

pub loop-c-init : goal.loop-c-init
loop-c-init c = search alls

pub class_list-requires : goal.class_list-requires
class_list-requires c = (c.requires, c.loop-c-test.true)

pub returns-then-not-class_list : goal.returns-then-not-class_list
returns-then-not-class_list c = search alls

pub loop-c-preserved : goal.loop-c-preserved
loop-c-preserved c = search alls

pub returns : goal.returns
returns c = search alls
