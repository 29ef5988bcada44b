use Rattle.alloc_sound.proofs.Ways.{both_ends}
use Rattle.std.proofs.Common.{rules}
use Rattle.alloc_sound.proofs.takes_chunk.Goals as goal

pub returns : goal.returns
returns c = both_ends _ _ (search rules) (search rules) c.wrapping_sub_u32-x.ensures.value
