use Rattle.keeper_bytes.specs.Requests.{place_of}
use borrow.Author.Rules.{rules}
use Rattle.keeper_calls.proofs.told_by.Goals as goal

pub returns : goal.returns
unfolding place_of
returns c = rw (c.len_of.ensures, c.off_of.ensures)
