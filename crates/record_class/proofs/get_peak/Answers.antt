use Rattle.records.specs.Class.{peak_at}
use Rattle.record_class.proofs.get_peak.Goals as goal

pub returns : goal.returns
unfolding peak_at
returns c = cc
