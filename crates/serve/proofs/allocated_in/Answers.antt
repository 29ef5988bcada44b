use borrow.Author.Rules.{rules}
use Rattle.base.proofs.Tests.{picks}
use Rattle.serve.specs.Mirror.{allocated_in}
use Rattle.serve.proofs.allocated_in.Goals as goal

pub returns-then-x-lt-HALF : goal.returns-then-x-lt-HALF
unfolding allocated_in
returns-then-x-lt-HALF c = search picks

pub returns-then-x-eq-NOTHING_ASKED : goal.returns-then-x-eq-NOTHING_ASKED
unfolding allocated_in
returns-then-x-eq-NOTHING_ASKED c = search picks

pub returns-else-x-eq-NOTHING_ASKED : goal.returns-else-x-eq-NOTHING_ASKED
unfolding allocated_in
returns-else-x-eq-NOTHING_ASKED c = search picks
