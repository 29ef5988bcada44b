use Rattle.alloc_sound.specs.Mirror.{lowest_on, chunk_outcome, chunk_slice}
use Rattle.alloc_sound.proofs.chunk_of_page.Goals as goal

pub returns-clause-answer : goal.returns-clause-answer
unfolding lowest_on chunk_outcome chunk_slice
returns-clause-answer c = rw (c.chunk_start-x.ensures.answer, c.alloc_chunk-i.ensures.answer) at c.block.ensures

pub returns-clause-slice : goal.returns-clause-slice
unfolding lowest_on chunk_outcome chunk_slice
returns-clause-slice c = rw c.alloc_chunk-i.ensures.answer at c.alloc_chunk-i.ensures.slice
