use Rattle.free_all_try.specs.Mirror.{flagged}
use Rattle.free_all_try.proofs.is_flagged.Goals as goal

pub returns : goal.returns
unfolding flagged
returns c = c.is_marked.ensures
