use mathlib.Core.Path.{◌≡◌}
use Prim.Native.Nat.{◌+◌}
use lib.ListN.{drop}
use Rattle.printing.specs.Text.{written}
use Rattle.printing.proofs.put_text.Given as goal

abbrev pub invariant-loop-i : goal.invariant-loop-i
invariant-loop-i l = written l.out (l.n + l.i) (drop l.i l.text) ≡ written l.initial.out l.n l.text
