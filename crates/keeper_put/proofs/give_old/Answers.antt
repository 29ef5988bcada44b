use mathlib.Core.Path.{sym, ◌∙◌}
use Rattle.base.proofs.AllBelow.{pick_yes, pick_no}
use Rattle.keeper_put.specs.Mirror.{old_given}
use borrow.Author.Rules.{rules}
use Rattle.keeper_put.proofs.give_old.Goals as goal

pub returns-then-is_empty : goal.returns-then-is_empty
unfolding old_given
returns-then-is_empty c = sym (pick_yes _ _ _ (sym c.is_empty.ensures ∙ c.if-is_empty.true))

pub returns : goal.returns
unfolding old_given
returns c = rw c.off_of-off.ensures at c.free_sound.ensures.slice ∙ sym (pick_no _ _ _ (sym c.is_empty.ensures ∙ c.if-is_empty.false))
