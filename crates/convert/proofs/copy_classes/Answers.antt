use Rattle.convert.specs.Mirror.{classes_copied}
use Rattle.convert.proofs.copy_classes.Goals as goal

pub returns : goal.returns
unfolding classes_copied
returns c = cc
