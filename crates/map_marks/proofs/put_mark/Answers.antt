use mathlib.Core.Path.{◌∙◌}
use Rattle.maps.proofs.Marks.{mark-stored}
use Rattle.map_marks.proofs.put_mark.Goals as goal

pub returns : goal.returns
returns c = c.put_byte.ensures
    ∙ mark-stored c.args.pool.now _ _ _ _ c.byte_of-at.ensures c.get_byte-b.ensures _ _ c.bit_put.ensures
