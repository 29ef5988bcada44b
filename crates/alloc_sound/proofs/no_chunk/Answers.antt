use Rattle.alloc_sound.proofs.Answers.{no_room_lem}
use Rattle.alloc_sound.proofs.no_chunk.Goals as goal

pub returns-clause-answer : goal.returns-clause-answer
returns-clause-answer c = no_room_lem

pub returns-clause-slice : goal.returns-clause-slice
returns-clause-slice c = c.refuse_chunk.ensures
