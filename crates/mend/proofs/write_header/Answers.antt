use Rattle.mending.specs.Mirror.{header_written}
use Rattle.mend.proofs.write_header.Goals as goal

pub returns : goal.returns
unfolding header_written
returns c = cc
