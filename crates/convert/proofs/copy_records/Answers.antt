use Rattle.convert.specs.Mirror.{pages_copied}
use Rattle.convert.proofs.copy_records.Goals as goal

pub returns : goal.returns
unfolding pages_copied
returns c = cc
