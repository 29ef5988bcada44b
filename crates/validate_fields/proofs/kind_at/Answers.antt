use mathlib.Core.Path.{ap}
use Prim.Native.Nat.{ℕ}
use lib.Dec.{eqb}
use Rattle.rules.specs.Rules.{kind_at}
use Rattle.base.proofs.Tests.{pick_lt, picks}
use Rattle.validate_fields.proofs.kind_at.Goals as goal

pub returns-then-p-n : goal.returns-then-p-n
unfolding kind_at
returns-then-p-n c = pick_lt _ _ _ _ c.if-p-n.true (ap (λ (k : ℕ). eqb k c.args.want) c.kind_of.ensures)

pub returns : goal.returns
unfolding kind_at
returns c = search picks
