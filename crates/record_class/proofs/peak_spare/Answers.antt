use Rattle.records.specs.Class.{peak_spare}
use Rattle.record_class.proofs.peak_spare.Goals as goal

pub returns : goal.returns
unfolding peak_spare
returns c = cc
