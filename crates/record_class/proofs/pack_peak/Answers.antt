use Rattle.records.specs.Class.{pack_peak}
use native.Mathlib.Omega.{arith}
use Rattle.record_class.proofs.pack_peak.Goals as goal

pub returns : goal.returns
unfolding pack_peak
returns c = omega arith
