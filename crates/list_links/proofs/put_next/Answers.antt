use Rattle.lists.specs.Mirror.{with_next}
use Rattle.base.proofs.Tests.{picks}
use Rattle.list_links.proofs.put_next.Goals as goal

pub returns-then-p-eq-NO_PAGE : goal.returns-then-p-eq-NO_PAGE
unfolding with_next
returns-then-p-eq-NO_PAGE c = search picks

pub returns-else-p-eq-NO_PAGE : goal.returns-else-p-eq-NO_PAGE
unfolding with_next
returns-else-p-eq-NO_PAGE c = search picks
