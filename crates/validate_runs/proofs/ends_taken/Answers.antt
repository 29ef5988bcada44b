use Rattle.rules.specs.Rules.{ends_taken}
use mathlib.Core.Path.{ap}
use mathlib.Core.Bool.{not}
use Prim.Native.Nat.{ℕ}
use lib.Dec.{eqb}
use Rattle.base.proofs.Tests.{pick_lt, picks}
use Rattle.validate_runs.proofs.ends_taken.Goals as goal

pub returns-then-x-n : goal.returns-then-x-n
unfolding ends_taken
returns-then-x-n c = pick_lt _ _ _ _ c.if-x-n.true (ap (λ (k : ℕ). not (eqb k 4)) c.kind_of.ensures)

pub returns : goal.returns
unfolding ends_taken
returns c = search picks
