use mathlib.Core.Path.{◌≡◌}
use mathlib.Core.Bool.{true}
use Prim.Native.Nat.{◌+◌, ◌-◌, ◌≤◌}
use lib.ListN.{length, drop}
use Rattle.script_lines.specs.Lines.{lines}
use Rattle.plain.specs.Plain.{read_plain}
use Rattle.plain_rules.specs.Rules.{is_sound}
use Rattle.plain_host.specs.Host.{shown}
use Rattle.plain_script.proofs.Serving.{Left}
use Rattle.plain_script.proofs.serve_lines.Given as goal

abbrev pub invariant-loop-at : goal.invariant-loop-at
invariant-loop-at l = (l.at ≤ length l.input + 1) × (length l.chunks ≡ length l.initial.chunks) × (length l.out ≡ length l.initial.out) × (6144 ≤ length l.chunks) × (is_sound (shown l.state) l.chunks ≡ true) ×
    Left (read_plain (shown l.state) l.chunks) l.out l.next (lines (drop l.at l.input)) (read_plain (shown l.initial.state) l.initial.chunks) l.initial.out l.n (lines l.input)

abbrev pub decreases-loop-at : goal.decreases-loop-at
decreases-loop-at l = length l.input + 1 - l.at
