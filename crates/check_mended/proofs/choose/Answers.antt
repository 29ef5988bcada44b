use Rattle.base.proofs.Tests.{picks}
use Rattle.check_mended.proofs.choose.Goals as goal

pub returns-then-t : goal.returns-then-t
returns-then-t c = search picks

pub returns-else-t : goal.returns-else-t
returns-else-t c = search picks
