use mathlib.Core.Path.{◌≡◌}
use Prim.Native.Nat.{◌+◌}
use Rattle.printing.specs.Text.{digits, places, decimal, written}
use Rattle.printing.proofs.put_decimal.Given as goal

abbrev pub invariant-loop-k : goal.invariant-loop-k
invariant-loop-k l = (l.at + l.k ≡ l.n + places l.v) × (written l.out l.at (digits l.v l.k) ≡ written l.initial.out l.n (decimal l.v))
