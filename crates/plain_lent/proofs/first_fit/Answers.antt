use Rattle.plain.specs.Table.{first_fit}
use Rattle.plain_runs.specs.Tests.{passing}
use Rattle.plain_lent.proofs.first_fit.Goals as goal

pub returns : goal.returns
unfolding first_fit passing
returns c = rw (c.scan.ensures, c.holding.ensures)
