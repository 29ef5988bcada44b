use Rattle.alloc_sound.specs.Mirror.{outcome_of}
use Rattle.base.proofs.Tests.{picks}
use Rattle.alloc_sound.proofs.allocated.Goals as goal

pub returns-then-x-lt-NOTHING_ASKED : goal.returns-then-x-lt-NOTHING_ASKED
unfolding outcome_of
returns-then-x-lt-NOTHING_ASKED c = search picks

pub returns-then-x-eq-NOTHING_ASKED : goal.returns-then-x-eq-NOTHING_ASKED
unfolding outcome_of
returns-then-x-eq-NOTHING_ASKED c = search picks

pub returns-else-x-eq-NOTHING_ASKED : goal.returns-else-x-eq-NOTHING_ASKED
unfolding outcome_of
returns-else-x-eq-NOTHING_ASKED c = search picks
