use Rattle.locate.specs.Mirror.{class_found}
use Rattle.base.proofs.Tests.{picks}
use Rattle.locate.proofs.in_class.Goals as goal

pub returns-then-c-le8 : goal.returns-then-c-le8
unfolding class_found
returns-then-c-le8 c = search picks

pub returns-else-c-le8 : goal.returns-else-c-le8
unfolding class_found
returns-else-c-le8 c = search picks
