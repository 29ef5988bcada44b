use Rattle.alloc_sound.specs.Mirror.{new_outcome, new_slice}
use Rattle.alloc_sound.proofs.new_page.Goals as goal

pub returns-clause-answer : goal.returns-clause-answer
unfolding new_outcome new_slice
returns-clause-answer c = rw c.first_fit-p.ensures at c.cut_or_refuse.ensures.answer

pub returns-clause-slice : goal.returns-clause-slice
unfolding new_outcome new_slice
returns-clause-slice c = rw c.first_fit-p.ensures at c.cut_or_refuse.ensures.slice
