use Rattle.convert.specs.Mirror.{header_set}
use Rattle.convert.proofs.set_header.Goals as goal

pub returns : goal.returns
unfolding header_set
returns c = cc
