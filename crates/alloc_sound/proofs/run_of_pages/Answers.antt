use Rattle.alloc_sound.specs.Mirror.{pages_outcome, pages_slice}
use Rattle.alloc_sound.proofs.run_of_pages.Goals as goal

pub returns-clause-answer : goal.returns-clause-answer
unfolding pages_outcome pages_slice
returns-clause-answer c = rw c.first_fit-p.ensures at c.run_from.ensures.answer

pub returns-clause-slice : goal.returns-clause-slice
unfolding pages_outcome pages_slice
returns-clause-slice c = rw c.first_fit-p.ensures at c.run_from.ensures.slice
