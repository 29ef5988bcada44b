use Rattle.chunk_alloc.proofs.Taken.{last_paged, more_paged}
use Rattle.chunk_alloc.proofs.take_paged.Goals as goal

pub returns-then-last_free_paged : goal.returns-then-last_free_paged
returns-then-last_free_paged c = last_paged _ _ _ _ _ _ _ _ c.last_free_paged.ensures c.requires.0 c.if-last_free_paged.true c.take_last.ensures

pub returns-else-last_free_paged : goal.returns-else-last_free_paged
returns-else-last_free_paged c = more_paged _ _ _ _ _ _ _ _ c.last_free_paged.ensures c.requires.0 c.if-last_free_paged.false c.take.ensures
