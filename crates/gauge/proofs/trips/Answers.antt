use mathlib.Core.Path.{sym, ◌∙◌}
use Rattle.base.specs.Tests.{pick}
use Rattle.gauge.specs.Gauge.{trip_outcome}
use Rattle.gauge.proofs.trips.Goals as goal

pub returns-then-usable : goal.returns-then-usable
unfolding trip_outcome pick
returns-then-usable c = rw (sym c.usable.ensures ∙ c.if-usable.true)

pub returns-else-usable : goal.returns-else-usable
unfolding trip_outcome pick
returns-else-usable c = rw (sym c.usable.ensures ∙ c.if-usable.false)
