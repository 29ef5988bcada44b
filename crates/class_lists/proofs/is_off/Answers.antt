use Rattle.base.proofs.Tests.{picks}
use Rattle.class_lists.proofs.is_off.Goals as goal

pub returns-then-l-eq-NO_PAGE : goal.returns-then-l-eq-NO_PAGE
returns-then-l-eq-NO_PAGE c = search picks

pub returns-else-l-eq-NO_PAGE : goal.returns-else-l-eq-NO_PAGE
returns-else-l-eq-NO_PAGE c = search picks
