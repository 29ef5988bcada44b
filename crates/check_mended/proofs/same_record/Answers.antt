use Rattle.mending.specs.Checked.{same_record}
use borrow.Author.Rules.{rules}
use Rattle.check_mended.proofs.same_record.Goals as goal

pub returns : goal.returns
unfolding same_record
returns c = rw c.all-same.ensures at c.choose.ensures
