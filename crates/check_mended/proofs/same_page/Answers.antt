use Rattle.mending.specs.Checked.{same_page_at}
use borrow.Author.Rules.{rules}
use Rattle.check_mended.proofs.same_page.Goals as goal

pub returns : goal.returns
unfolding same_page_at
returns c = cc
