use mathlib.Core.Path.{refl}
use Rattle.plain.specs.Table.{vacant}
use Rattle.plain.specs.Fresh.{fresh_runs}
use Rattle.plain_host.proofs.format.Goals as goal

pub returns : goal.returns
unfolding vacant
returns c = c.format.ensures fresh_runs refl
