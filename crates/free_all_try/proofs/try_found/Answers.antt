use Rattle.free_all_try.proofs.try_found.Goals as goal

pub returns-in-Chunk : goal.returns-in-Chunk
returns-in-Chunk c = rw c.in-Chunk.is c.try_chunk.ensures

pub returns-in-Run : goal.returns-in-Run
returns-in-Run c = rw c.in-Run.is c.try_run.ensures
