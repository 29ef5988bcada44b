use Rattle.copying.proofs.Laws.{lays}
use Rattle.copying.proofs.copy.Goals as goal

pub loop-i-init : goal.loop-i-init
loop-i-init c = search lays

pub loop-i-preserved : goal.loop-i-preserved
loop-i-preserved c = search lays
