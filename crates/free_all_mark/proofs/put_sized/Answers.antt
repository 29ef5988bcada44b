use Rattle.free_all_mark.specs.Mirror.{sized_put}
use Rattle.free_all_mark.proofs.put_sized.Goals as goal

pub returns : goal.returns
unfolding sized_put
returns c = rw c.map_base-base.ensures at c.put_mark.ensures
