use mathlib.Core.Path.{sym, ap, ◌∙◌}
use mathlib.Core.Bool.{not}
use borrow.Author.Tests.{eq-eqb, ne_eqb}
use Rattle.base.proofs.AllBelow.{pick_yes, pick_no}
use Rattle.mending.specs.Mirror.{ends_run}
use Rattle.mend_order.proofs.ends_run.Goals as goal

pub returns-then-kind_of-eq-INSIDE_FREE : goal.returns-then-kind_of-eq-INSIDE_FREE
unfolding ends_run
returns-then-kind_of-eq-INSIDE_FREE c = ap not c.kind_at.ensures ∙ sym (pick_yes _ _ _ (eq-eqb _ _ (sym c.kind_of.ensures ∙ c.if-kind_of-eq-INSIDE_FREE.true)))

pub returns : goal.returns
unfolding ends_run
returns c = sym (pick_no _ _ _ (ne_eqb _ _ (λ z. c.if-kind_of-eq-INSIDE_FREE.false (c.kind_of.ensures ∙ z))))
