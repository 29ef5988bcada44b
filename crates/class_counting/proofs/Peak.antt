-- The larger of two numbers, as the rule chooses it.
use Rattle.std.proofs.Common.{◌≡◌, ℕ, max, nat_lt, ⊎_elim, arith}
use Rattle.base.specs.Tests.{pick}
use Rattle.base.proofs.Cases.{lt?}
use Rattle.base.proofs.Tests.{pick_lt, pick_ge}

pub max_pick : (a b : ℕ) → max a b ≡ pick (nat_lt a b) b a
max_pick a b = ⊎_elim (λ l. pick_lt _ _ a b l (omega arith)) (λ l. pick_ge _ _ a b l (omega arith)) (lt? a b)
