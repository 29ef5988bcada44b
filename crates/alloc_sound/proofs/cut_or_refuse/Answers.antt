use Rattle.alloc_sound.specs.Mirror.{cut_outcome, cut_slice}
use Rattle.base.proofs.Tests.{picks}
use Rattle.alloc_sound.proofs.cut_or_refuse.Goals as goal

pub returns-then-p-eq-NO_PAGE-clause-answer : goal.returns-then-p-eq-NO_PAGE-clause-answer
unfolding cut_outcome cut_slice
returns-then-p-eq-NO_PAGE-clause-answer c = search picks

pub returns-then-p-eq-NO_PAGE-clause-slice : goal.returns-then-p-eq-NO_PAGE-clause-slice
unfolding cut_outcome cut_slice
returns-then-p-eq-NO_PAGE-clause-slice c = search picks

pub returns-else-p-eq-NO_PAGE-clause-answer : goal.returns-else-p-eq-NO_PAGE-clause-answer
unfolding cut_outcome cut_slice
returns-else-p-eq-NO_PAGE-clause-answer c = search picks

pub returns-else-p-eq-NO_PAGE-clause-slice : goal.returns-else-p-eq-NO_PAGE-clause-slice
unfolding cut_outcome cut_slice
returns-else-p-eq-NO_PAGE-clause-slice c = search picks
