use Rattle.plain_decide.proofs.Formatted.{formats}
use Rattle.plain_engine.proofs.format.Goals as goal

pub returns : goal.returns
returns c = formats _ c.fresh.ensures
