use Rattle.free_sound.specs.Mirror.{marked}
use Rattle.keeper_room.proofs.is_marked.Goals as goal

pub returns : goal.returns
unfolding marked
returns c = rw (c.bit_for-bit.ensures, c.map_base-base.ensures) at c.get_mark.ensures
