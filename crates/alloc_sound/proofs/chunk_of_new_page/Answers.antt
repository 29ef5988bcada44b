use Rattle.alloc_sound.specs.Mirror.{first_outcome}
use Rattle.alloc_sound.proofs.chunk_of_new_page.Goals as goal

pub returns-clause-answer : goal.returns-clause-answer
unfolding first_outcome
returns-clause-answer c = rw (c.chunk_start-x.ensures.answer, c.own_count-i.ensures.answer) at c.block.ensures

pub returns-clause-slice : goal.returns-clause-slice
unfolding first_outcome
returns-clause-slice c = c.cut_page.ensures
