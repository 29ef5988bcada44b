use Rattle.free_all_mark.specs.Mirror.{kind_put}
use Rattle.base.proofs.Tests.{picks}
use Rattle.free_all_mark.proofs.put_kind.Goals as goal

pub returns-then-l-eq-CLASS_PAGE : goal.returns-then-l-eq-CLASS_PAGE
unfolding kind_put
returns-then-l-eq-CLASS_PAGE c = search picks

pub returns-then-l-eq-FIRST_TAKEN : goal.returns-then-l-eq-FIRST_TAKEN
unfolding kind_put
returns-then-l-eq-FIRST_TAKEN c = search picks

pub returns-else-l-eq-FIRST_TAKEN : goal.returns-else-l-eq-FIRST_TAKEN
unfolding kind_put
returns-else-l-eq-FIRST_TAKEN c = search picks
