use Rattle.std.proofs.Common.{sym, get_or-take}
use Rattle.plain.specs.Table.{vacant}
use Rattle.plain_lent.proofs.entry.Goals as goal

pub returns-then-i-lt12 : goal.returns-then-i-lt12
unfolding vacant
returns-then-i-lt12 c = sym (get_or-take 12 _ _ vacant c.if-i-lt12.true)
