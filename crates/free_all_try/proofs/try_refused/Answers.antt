use mathlib.Core.Path.{sym, ap, ◌∙◌}
use borrow.Author.Tests.{eq-eqb}
use Rattle.base.proofs.AllBelow.{pick_yes, pick_no}
use Rattle.answers.specs.Outcome.{number_of}
use Rattle.answers.proofs.Refusals.{only-seven}
use Rattle.free_all_try.specs.Mirror.{refused_tried}
use Rattle.free_all_try.proofs.try_refused.Goals as goal

pub returns-in-NotAStart : goal.returns-in-NotAStart
unfolding refused_tried
returns-in-NotAStart c = c.off_start.ensures ∙ sym (pick_yes _ _ _ (eq-eqb _ _ (ap number_of c.in-NotAStart.is)))

pub returns-in_default : goal.returns-in_default
unfolding refused_tried
returns-in_default c = sym (pick_no _ _ _ (only-seven _ c.in_default.not-NotAStart))
