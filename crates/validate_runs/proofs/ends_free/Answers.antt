use Rattle.rules.specs.Rules.{ends_free}
use mathlib.Core.Path.{ap}
use Prim.Native.Nat.{ℕ}
use lib.Dec.{ltb}
use Rattle.base.proofs.Tests.{pick_lt, picks}
use Rattle.validate_runs.proofs.ends_free.Goals as goal

pub returns-then-x-n : goal.returns-then-x-n
unfolding ends_free
returns-then-x-n c = pick_lt _ _ _ _ c.if-x-n.true (ap (λ (k : ℕ). ltb 1 k) c.kind_of.ensures)

pub returns : goal.returns
unfolding ends_free
returns c = search picks
