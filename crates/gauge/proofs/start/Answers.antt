use mathlib.Core.Path.{refl, sym, ◌∙◌}
use Rattle.base.specs.Tests.{pick}
use Rattle.gauge.specs.Gauge.{start_outcome, started}
use Rattle.gauge.proofs.start.Goals as goal

pub returns-then-in_range-clause-answer : goal.returns-then-in_range-clause-answer
unfolding start_outcome started pick
returns-then-in_range-clause-answer c = rw (sym c.in_range.ensures ∙ c.if-in_range.true)
    (refl)

pub returns-then-in_range-clause-gauge : goal.returns-then-in_range-clause-gauge
unfolding start_outcome started pick
returns-then-in_range-clause-gauge c = rw (sym c.in_range.ensures ∙ c.if-in_range.true)
    (c.fresh.ensures)

pub returns-else-in_range-clause-answer : goal.returns-else-in_range-clause-answer
unfolding start_outcome started pick
returns-else-in_range-clause-answer c = rw (sym c.in_range.ensures ∙ c.if-in_range.false)
    (refl)

pub returns-else-in_range-clause-gauge : goal.returns-else-in_range-clause-gauge
unfolding start_outcome started pick
returns-else-in_range-clause-gauge c = rw (sym c.in_range.ensures ∙ c.if-in_range.false)
    (refl)
