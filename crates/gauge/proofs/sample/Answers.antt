use mathlib.Core.Path.{refl, sym, ◌∙◌}
use Rattle.base.specs.Tests.{pick}
use Rattle.gauge.specs.Gauge.{sample_outcome, sampled}
use Rattle.gauge.proofs.Samples.{begun-few, takes-few}
use Rattle.gauge.proofs.sample.Goals as goal

pub advanced-requires : goal.advanced-requires
advanced-requires c = rw c.begun.ensures (begun-few _ (takes-few _ _ (sym c.takes.ensures ∙ c.if-takes.true)))

pub returns-then-takes-clause-answer : goal.returns-then-takes-clause-answer
unfolding sample_outcome sampled pick
returns-then-takes-clause-answer c = rw (sym c.takes.ensures ∙ c.if-takes.true)
    (refl)

pub returns-then-takes-clause-gauge : goal.returns-then-takes-clause-gauge
unfolding sample_outcome sampled pick
returns-then-takes-clause-gauge c = rw (sym c.takes.ensures ∙ c.if-takes.true)
    (rw c.begun.ensures at c.advanced.ensures)

pub returns-else-takes-clause-answer : goal.returns-else-takes-clause-answer
unfolding sample_outcome sampled pick
returns-else-takes-clause-answer c = rw (sym c.takes.ensures ∙ c.if-takes.false)
    (refl)

pub returns-else-takes-clause-gauge : goal.returns-else-takes-clause-gauge
unfolding sample_outcome sampled pick
returns-else-takes-clause-gauge c = rw (sym c.takes.ensures ∙ c.if-takes.false)
    (refl)
