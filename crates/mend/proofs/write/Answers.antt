use Rattle.mending.specs.Mirror.{written}
use Rattle.mend.proofs.write.Goals as goal

pub returns : goal.returns
unfolding written
returns c = cc
