use mathlib.Core.Path.{sym, ◌∙◌}
use Rattle.keeper_room.proofs.Room.{taken_room, no_room_lem}
use Rattle.keeper_room.proofs.chunk_room.Goals as goal

pub returns-then-is_marked : goal.returns-then-is_marked
returns-then-is_marked c = c.chunk_size.ensures.0 ∙ taken_room _ _ _ _ _ _ (sym c.is_marked.ensures ∙ c.if-is_marked.true)

pub returns-else-is_marked : goal.returns-else-is_marked
returns-else-is_marked c = no_room_lem _ _ _ _ _ _ (sym c.is_marked.ensures ∙ c.if-is_marked.false)
