use native.Mathlib.Omega.{arith}
use Rattle.base.proofs.Tests.{pick_lt}
use Rattle.rules.specs.Bytes.{map_base}
use Rattle.base.proofs.Tests.{picks}
use Rattle.validate_fields.proofs.map_at.Goals as goal

pub returns-then-c-lt3-clause-answer : goal.returns-then-c-lt3-clause-answer
unfolding map_base
returns-then-c-lt3-clause-answer c = pick_lt _ _ _ _ c.if-c-lt3.true (omega arith)

pub returns-then-c-lt3-clause-bound : goal.returns-then-c-lt3-clause-bound
unfolding map_base
returns-then-c-lt3-clause-bound c = omega arith

pub returns-else-c-lt3-clause-answer : goal.returns-else-c-lt3-clause-answer
unfolding map_base
returns-else-c-lt3-clause-answer c = search picks

pub returns-else-c-lt3-clause-bound : goal.returns-else-c-lt3-clause-bound
unfolding map_base
returns-else-c-lt3-clause-bound c = omega arith
