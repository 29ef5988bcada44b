use Rattle.chunk_alloc.proofs.Taken.{last_recorded, more_recorded}
use Rattle.chunk_alloc.proofs.take_recorded.Goals as goal

pub returns-then-last_free_recorded : goal.returns-then-last_free_recorded
returns-then-last_free_recorded c = last_recorded _ _ _ _ _ _ _ _ c.last_free_recorded.ensures c.requires.0 c.if-last_free_recorded.true c.take_last.ensures

pub returns-else-last_free_recorded : goal.returns-else-last_free_recorded
returns-else-last_free_recorded c = more_recorded _ _ _ _ _ _ _ _ c.last_free_recorded.ensures c.requires.0 c.if-last_free_recorded.false c.take.ensures
