use Rattle.format.proofs.Steps.{fills}
use Rattle.format.proofs.fill.Goals as goal

pub loop-i-init : goal.loop-i-init
loop-i-init c = search fills

pub loop-i-preserved : goal.loop-i-preserved
loop-i-preserved c = search fills

pub returns : goal.returns
returns c = search fills
