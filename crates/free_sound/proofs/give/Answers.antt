use Rattle.free_sound.proofs.give.Goals as goal

pub returns-in-Chunk-clause-answer : goal.returns-in-Chunk-clause-answer
returns-in-Chunk-clause-answer c = rw c.in-Chunk.is c.give_chunk.ensures.answer

pub returns-in-Chunk-clause-slice : goal.returns-in-Chunk-clause-slice
returns-in-Chunk-clause-slice c = rw c.in-Chunk.is c.give_chunk.ensures.slice

pub returns-in-Run-clause-answer : goal.returns-in-Run-clause-answer
returns-in-Run-clause-answer c = rw c.in-Run.is c.give_run.ensures.answer

pub returns-in-Run-clause-slice : goal.returns-in-Run-clause-slice
returns-in-Run-clause-slice c = rw c.in-Run.is c.give_run.ensures.slice
