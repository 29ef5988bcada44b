use Rattle.maps.proofs.Marks.{mark-read}
use Rattle.map_marks.proofs.get_mark.Goals as goal

pub returns : goal.returns
returns c = mark-read _ _ _ _ _ c.byte_of.ensures c.get_byte.ensures _ c.bit_at.ensures
