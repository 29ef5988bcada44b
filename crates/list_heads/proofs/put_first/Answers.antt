use Rattle.lists.specs.Mirror.{with_first}
use Rattle.base.proofs.Tests.{picks}
use Rattle.list_heads.proofs.put_first.Goals as goal

pub returns-then-list-eq0 : goal.returns-then-list-eq0
unfolding with_first
returns-then-list-eq0 c = search picks

pub returns-else-list-eq0 : goal.returns-else-list-eq0
unfolding with_first
returns-else-list-eq0 c = search picks
