use Rattle.lists.specs.Mirror.{with_prev}
use Rattle.base.proofs.Tests.{picks}
use Rattle.list_links.proofs.put_prev.Goals as goal

pub returns-then-p-ne-NO_PAGE : goal.returns-then-p-ne-NO_PAGE
unfolding with_prev
returns-then-p-ne-NO_PAGE c = search picks

pub returns-else-p-ne-NO_PAGE : goal.returns-else-p-ne-NO_PAGE
unfolding with_prev
returns-else-p-ne-NO_PAGE c = search picks
