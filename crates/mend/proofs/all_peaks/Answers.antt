use Rattle.mend.proofs.Steps.{peaking}
use Rattle.mend.proofs.all_peaks.Goals as goal

pub loop-c-init : goal.loop-c-init
loop-c-init c = search peaking

pub loop-c-preserved : goal.loop-c-preserved
loop-c-preserved c = search peaking

pub returns : goal.returns
returns c = search peaking
