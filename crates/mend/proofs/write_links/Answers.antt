use Rattle.mend.proofs.Steps.{linking}
use Rattle.mend.proofs.write_links.Goals as goal

pub loop-p-init : goal.loop-p-init
loop-p-init c = search linking

pub loop-p-preserved : goal.loop-p-preserved
loop-p-preserved c = search linking

pub returns : goal.returns
returns c = search linking
