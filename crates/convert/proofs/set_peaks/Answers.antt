use Rattle.convert.proofs.Steps.{peaks}
use Rattle.convert.proofs.set_peaks.Goals as goal

pub loop-c-init : goal.loop-c-init
loop-c-init c = search peaks

pub loop-c-preserved : goal.loop-c-preserved
loop-c-preserved c = search peaks

pub returns : goal.returns
returns c = search peaks
