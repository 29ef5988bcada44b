use Rattle.convert.proofs.Steps.{laid_at}
use Rattle.convert.proofs.lay_pages.Goals as goal

pub returns : goal.returns
returns c = laid_at _ _ _ _ c.copy.ensures
