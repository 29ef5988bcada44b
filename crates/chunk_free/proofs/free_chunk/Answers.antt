use Rattle.chunk_free.proofs.Kept.{dropped, kept}
use Rattle.chunk_free.proofs.free_chunk.Goals as goal

pub returns-then-last_taken : goal.returns-then-last_taken
returns-then-last_taken c = dropped _ _ _ _ _ _ _ _ c.requires.1 _ c.last_taken.ensures c.if-last_taken.true c.drop_page.ensures

pub returns-else-last_taken : goal.returns-else-last_taken
returns-else-last_taken c = kept _ _ _ _ _ _ _ _ c.requires.1 _ c.last_taken.ensures c.if-last_taken.false c.keep.ensures
