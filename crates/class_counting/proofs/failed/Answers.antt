use Rattle.base.proofs.Tests.{picks}
use Rattle.class_counting.specs.Mirror.{fails_more}
use Rattle.class_counting.proofs.failed.Goals as goal

pub returns-then-fails : goal.returns-then-fails
unfolding fails_more
returns-then-fails c = search picks

pub returns-else-fails : goal.returns-else-fails
unfolding fails_more
returns-else-fails c = search picks
