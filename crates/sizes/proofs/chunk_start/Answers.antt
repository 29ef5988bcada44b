use mathlib.Core.Path.{ap}
use Prim.Native.Nat.{ℕ, ◌*◌}
use native.Mathlib.Omega.{arith}
use Rattle.sizes.proofs.Laws.{start_fits}
use Rattle.sizes.proofs.chunk_start.Goals as goal

pub overflow_mul-result : goal.overflow_mul-result
overflow_mul-result c = omega (arith, start_fits c.chunk_size.result c.args.i c.chunk_size.ensures.1 (omega arith))

pub returns-clause-answer : goal.returns-clause-answer
returns-clause-answer c = ap (λ (x : ℕ). x * c.args.i) c.chunk_size.ensures.0

pub returns-clause-bound : goal.returns-clause-bound
returns-clause-bound c = omega (arith, start_fits c.chunk_size.result c.args.i c.chunk_size.ensures.1 (omega arith))
