use Rattle.std.proofs.Common.{◌∙◌}
use Rattle.alloc_sound.proofs.alloc_sound.Goals as goal

pub returns-clause-answer : goal.returns-clause-answer
returns-clause-answer c = c.allocated.ensures ∙ c.take_block-x.ensures.answer

pub returns-clause-slice : goal.returns-clause-slice
returns-clause-slice c = c.take_block-x.ensures.slice
