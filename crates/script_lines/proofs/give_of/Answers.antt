use mathlib.Core.Path.{refl, sym, ◌∙◌}
use Rattle.base.proofs.Tests.{pick_on, pick-off}
use Rattle.script_lines.specs.Lines.{call_with}
use Rattle.script_lines.proofs.give_of.Goals as goal

pub number-requires : goal.number-requires
number-requires c = sym c.is_number.ensures ∙ c.if-is_number.true

pub returns-then-is_number : goal.returns-then-is_number
unfolding call_with
returns-then-is_number c = pick_on _ _ _ _ c.is_number.ensures c.if-is_number.true (cc)

pub returns-else-is_number : goal.returns-else-is_number
unfolding call_with
returns-else-is_number c = pick-off _ _ _ _ c.is_number.ensures c.if-is_number.false refl
