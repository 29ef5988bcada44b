use Prim.Native.Nat.{ℕ, ◌*◌, ◌≤◌}
use native.Mathlib.Nat.{mul-le-mul}
use native.Mathlib.Omega.{arith}
use Rattle.records.proofs.place.Goals as goal

product : (a b : ℕ) → a ≤ 255 → b ≤ 65535 → a * b ≤ 16711425
product a b h k = mul-le-mul h k

pub overflow_mul-result : goal.overflow_mul-result
overflow_mul-result c = omega (arith, product c.args.step c.args.i (omega arith) (omega arith))

pub overflow_add-result : goal.overflow_add-result
overflow_add-result c = omega (arith, product c.args.step c.args.i (omega arith) (omega arith))
