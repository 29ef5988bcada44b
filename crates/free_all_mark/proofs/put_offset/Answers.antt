use Rattle.free_all_mark.specs.Mirror.{offset_put}
use Rattle.free_all_mark.proofs.put_offset.Goals as goal

pub returns : goal.returns
unfolding offset_put
returns c = cc
