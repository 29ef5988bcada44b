use borrow.Author.Rules.{rules}
use Rattle.base.proofs.Tests.{picks}
use Rattle.serve.specs.Mirror.{freed_in}
use Rattle.serve.proofs.freed_in.Goals as goal

pub returns-then-x-lt-HALF : goal.returns-then-x-lt-HALF
unfolding freed_in
returns-then-x-lt-HALF c = search picks

pub returns-then-x-eq-OUTSIDE : goal.returns-then-x-eq-OUTSIDE
unfolding freed_in
returns-then-x-eq-OUTSIDE c = search picks

pub returns-then-x-eq-NOT_TAKEN : goal.returns-then-x-eq-NOT_TAKEN
unfolding freed_in
returns-then-x-eq-NOT_TAKEN c = search picks

pub returns-else-x-eq-NOT_TAKEN : goal.returns-else-x-eq-NOT_TAKEN
unfolding freed_in
returns-else-x-eq-NOT_TAKEN c = search picks
