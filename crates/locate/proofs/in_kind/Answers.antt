use Rattle.locate.specs.Mirror.{kind_found}
use Rattle.base.proofs.Tests.{picks}
use Rattle.locate.proofs.in_kind.Goals as goal

pub returns-then-l-le-FIRST_FREE : goal.returns-then-l-le-FIRST_FREE
unfolding kind_found
returns-then-l-le-FIRST_FREE c = search picks

pub returns-then-l-eq-CLASS_PAGE : goal.returns-then-l-eq-CLASS_PAGE
unfolding kind_found
returns-then-l-eq-CLASS_PAGE c = search picks

pub returns-then-l-eq-FIRST_TAKEN : goal.returns-then-l-eq-FIRST_TAKEN
unfolding kind_found
returns-then-l-eq-FIRST_TAKEN c = search picks

pub returns : goal.returns
unfolding kind_found
returns c = search picks
