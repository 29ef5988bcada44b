use Rattle.lists.specs.Mirror.{first_of}
use Rattle.base.proofs.Tests.{picks}
use Rattle.list_heads.proofs.first.Goals as goal

pub returns-then-list-eq0 : goal.returns-then-list-eq0
unfolding first_of
returns-then-list-eq0 c = search picks

pub returns-else-list-eq0 : goal.returns-else-list-eq0
unfolding first_of
returns-else-list-eq0 c = search picks
