use mathlib.Core.Path.{◌≡◌, refl, ap}
use mathlib.Core.List.{[]}
use Prim.Native.Nat.{◌+◌, ◌-◌, ◌≤◌}
use native.Mathlib.Omega.{arith}
use lib.ListN.{length, drop, drop_of_length-le}
use borrow.Author.Rules.{rules}
use Rattle.script_lines.specs.Lines.{lines}
use Rattle.script.proofs.Serving.{Left, left-all, left_as, left_more, left-none}
use Rattle.script.proofs.Room.{text-fits}
use Rattle.script.proofs.serve_lines.Given as goal

abbrev pub invariant-loop-at : goal.invariant-loop-at
invariant-loop-at l = (l.at ≤ length l.input + 1) × (length l.pool ≡ length l.initial.pool) × (length l.out ≡ length l.initial.out) ×
    Left l.pool l.out l.next (lines (drop l.at l.input)) l.initial.pool l.initial.out l.n (lines l.input)

abbrev pub decreases-loop-at : goal.decreases-loop-at
decreases-loop-at l = length l.input + 1 - l.at
