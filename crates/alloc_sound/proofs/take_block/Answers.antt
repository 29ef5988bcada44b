use Rattle.alloc_sound.proofs.Slices.{peak_follows}
use Rattle.alloc_sound.proofs.take_block.Goals as goal

pub returns-clause-answer : goal.returns-clause-answer
returns-clause-answer c = c.take-taken.ensures.answer

pub returns-clause-slice : goal.returns-clause-slice
returns-clause-slice c = peak_follows _ _ _ _ _ _ c.take-taken.ensures.slice c.raise_where_kept.ensures
