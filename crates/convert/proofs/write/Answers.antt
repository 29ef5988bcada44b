use Rattle.convert.specs.Mirror.{written}
use Rattle.convert.proofs.write.Goals as goal

pub returns : goal.returns
unfolding written
returns c = cc
