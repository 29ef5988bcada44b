use Rattle.locate.specs.Mirror.{past_found}
use Rattle.base.proofs.Tests.{picks}
use Rattle.locate.proofs.chunk_past.Goals as goal

pub returns-then-i-own : goal.returns-then-i-own
unfolding past_found
returns-then-i-own c = search picks

pub returns-else-i-own : goal.returns-else-i-own
unfolding past_found
returns-else-i-own c = search picks
