use Rattle.base.proofs.Tests.{picks}
use Rattle.free_all_try.specs.Mirror.{held_at}
use Rattle.free_all_try.proofs.held_at.Goals as goal

pub returns-then-i-owned : goal.returns-then-i-owned
unfolding held_at
returns-then-i-owned c = search picks

pub returns-else-i-owned : goal.returns-else-i-owned
unfolding held_at
returns-else-i-owned c = search picks
