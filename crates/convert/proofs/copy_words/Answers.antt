use Rattle.convert.proofs.Steps.{copies}
use Rattle.convert.proofs.copy_words.Goals as goal

pub loop-i-init : goal.loop-i-init
loop-i-init c = search copies

pub loop-i-preserved : goal.loop-i-preserved
loop-i-preserved c = search copies

pub returns : goal.returns
returns c = search copies
