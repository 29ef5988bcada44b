use Rattle.free_all_try.specs.Mirror.{kind_released}
use Rattle.base.proofs.Tests.{picks}
use Rattle.free_all_try.proofs.kind_released.Goals as goal

pub returns-then-l-eq-CLASS_PAGE : goal.returns-then-l-eq-CLASS_PAGE
unfolding kind_released
returns-then-l-eq-CLASS_PAGE c = search picks

pub returns-then-l-eq-FIRST_TAKEN : goal.returns-then-l-eq-FIRST_TAKEN
unfolding kind_released
returns-then-l-eq-FIRST_TAKEN c = search picks

pub returns : goal.returns
unfolding kind_released
returns c = search picks
