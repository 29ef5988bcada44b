use Rattle.base.proofs.Tests.{picks}
use Rattle.demands.specs.Editions.{format_as_outcome, formatted_as}
use Rattle.pool.proofs.format.Goals as goal

pub returns-then-edition-eq1-clause-answer : goal.returns-then-edition-eq1-clause-answer
unfolding format_as_outcome formatted_as
returns-then-edition-eq1-clause-answer c = search picks

pub returns-then-edition-eq1-clause-slice : goal.returns-then-edition-eq1-clause-slice
unfolding format_as_outcome formatted_as
returns-then-edition-eq1-clause-slice c = search picks

pub returns-then-edition-eq2-clause-answer : goal.returns-then-edition-eq2-clause-answer
unfolding format_as_outcome formatted_as
returns-then-edition-eq2-clause-answer c = search picks

pub returns-then-edition-eq2-clause-slice : goal.returns-then-edition-eq2-clause-slice
unfolding format_as_outcome formatted_as
returns-then-edition-eq2-clause-slice c = search picks

pub returns-clause-answer : goal.returns-clause-answer
unfolding format_as_outcome formatted_as
returns-clause-answer c = search picks

pub returns-clause-slice : goal.returns-clause-slice
unfolding format_as_outcome formatted_as
returns-clause-slice c = search picks
