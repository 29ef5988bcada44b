use Rattle.mend.proofs.Steps.{counting}
use Rattle.mend.proofs.write_counts.Goals as goal

pub loop-c-init : goal.loop-c-init
loop-c-init c = search counting

pub loop-c-preserved : goal.loop-c-preserved
loop-c-preserved c = search counting

pub returns : goal.returns
returns c = search counting
