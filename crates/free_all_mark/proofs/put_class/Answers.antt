use Rattle.free_all_mark.specs.Mirror.{class_put}
use Rattle.base.proofs.Tests.{picks}
use Rattle.free_all_mark.proofs.put_class.Goals as goal

pub returns-then-c-le8 : goal.returns-then-c-le8
unfolding class_put
returns-then-c-le8 c = search picks

pub returns-else-c-le8 : goal.returns-else-c-le8
unfolding class_put
returns-else-c-le8 c = search picks
