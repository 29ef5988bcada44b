use Rattle.free_all_try.specs.Mirror.{emptied}
use Rattle.free_all_try.proofs.is_emptied.Goals as goal

pub returns : goal.returns
unfolding emptied
returns c = cc
