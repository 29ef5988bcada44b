use mathlib.Core.Path.{◌≡◌}
use Prim.Native.Nat.{◌≤◌}
use Rattle.script_numbers.specs.Numeral.{value_of, capped}
use Rattle.script_numbers.proofs.value.Given as goal

abbrev pub invariant-loop-b : goal.invariant-loop-b
invariant-loop-b l = (l.v ≤ 4294967296) × (l.v ≡ capped (value_of l.s l.b-index))
