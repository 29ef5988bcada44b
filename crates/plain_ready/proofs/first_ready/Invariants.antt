use Rattle.std.proofs.Common.{◌≡◌, ◌+◌, length, drop}
use Rattle.plain.specs.Arrays.{place_of}
use Rattle.plain.specs.Mirror.{ready_in}
use Rattle.plain_ready.proofs.first_ready.Given as goal

abbrev pub invariant-loop-p : goal.invariant-loop-p
invariant-loop-p l = (length l.p-items ≡ 12) × (l.p-index + place_of (ready_in l.pages l.c) (drop l.p-index l.p-items) ≡ place_of (ready_in l.pages l.c) l.p-items)
