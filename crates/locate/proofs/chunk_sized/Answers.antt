use Rattle.locate.specs.Mirror.{sized_found}
use Rattle.base.proofs.Tests.{picks}
use Rattle.locate.proofs.chunk_sized.Goals as goal

pub returns-then-within-size-eq0 : goal.returns-then-within-size-eq0
unfolding sized_found
returns-then-within-size-eq0 c = search picks

pub returns-else-within-size-eq0 : goal.returns-else-within-size-eq0
unfolding sized_found
returns-else-within-size-eq0 c = search picks
