use mathlib.Core.Path.{refl}
use Rattle.keeper_room.proofs.room_of.Goals as goal

pub returns-in-Chunk : goal.returns-in-Chunk
returns-in-Chunk c = rw c.in-Chunk.is c.chunk_room.ensures

pub returns-in-Run : goal.returns-in-Run
returns-in-Run c = rw c.in-Run.is refl
