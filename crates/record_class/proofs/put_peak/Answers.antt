use Rattle.records.specs.Class.{with_peak}
use Rattle.record_class.proofs.put_peak.Goals as goal

pub returns : goal.returns
unfolding with_peak
returns c = cc
