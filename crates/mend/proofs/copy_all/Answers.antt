use Rattle.mend.proofs.Steps.{all_laid}
use Rattle.mend.proofs.copy_all.Goals as goal

pub returns : goal.returns
returns c = all_laid c.args.damaged.now c.args.target.now _ c.requires c.copy.ensures
