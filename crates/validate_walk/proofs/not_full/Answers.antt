use Rattle.map_occupancy.specs.Mirror.{is_full}
use Rattle.rules.specs.Bytes.{map_base}
use native.Mathlib.Omega.{arith}
use Prim.Native.Nat.{ℕ, ◌/◌}
use mathlib.Core.Bool.{not}
use mathlib.Core.Path.{◌≡◌, ap, ◌∙◌}
use Rattle.validate_walk.proofs.not_full.Goals as goal

pub returns : goal.returns
returns c = let a = c.args in let e : c.map_at.result ≡ map_base a.w a.n a.p.0 a.c / 8 = omega (arith, c.map_at.ensures.answer) in ap not (c.is_full.ensures ∙ ap (λ (k : ℕ). is_full a.pool.now k a.c) e)
