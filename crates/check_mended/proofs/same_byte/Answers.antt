use mathlib.Core.Path.{refl}
use Rattle.mending.specs.Checked.{same_byte_from}
use borrow.Author.Rules.{rules}
use Rattle.check_mended.proofs.same_byte.Goals as goal

pub returns : goal.returns
unfolding same_byte_from
returns c = refl
