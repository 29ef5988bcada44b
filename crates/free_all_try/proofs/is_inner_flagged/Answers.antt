use Rattle.free_all_try.specs.Mirror.{inner_flagged}
use Rattle.free_all_try.proofs.is_inner_flagged.Goals as goal

pub returns : goal.returns
unfolding inner_flagged
returns c = cc
