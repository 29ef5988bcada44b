use Rattle.std.proofs.Common.{◌≡◌, ◌≤◌}
use Rattle.base.specs.Count.{count}
use Rattle.plain.specs.Plain.{mark_of}
use Rattle.plain_rules.specs.Counts.{in_hands}
use Rattle.plain_counts.proofs.hands_past.Given as goal

abbrev pub invariant-loop-i : goal.invariant-loop-i
invariant-loop-i l = (l.k ≡ count (in_hands l.c (mark_of l.bytes l.p l.c)) l.i) × (l.k ≤ l.i)
