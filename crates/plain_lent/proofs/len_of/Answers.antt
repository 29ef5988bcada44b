use Rattle.plain.specs.Table.{len_of}
use Rattle.plain_lent.proofs.len_of.Goals as goal

pub returns : goal.returns
unfolding len_of
returns c = rw (c.pages_of.ensures, c.entry.ensures, c.scan.ensures)
