use Rattle.std.proofs.Common.{◌≡◌, true}
use Rattle.base.specs.Tests.{all_below}
use Rattle.plain.specs.Plain.{mark_of}
use Rattle.plain_kinds.proofs.own_marked.Given as goal

abbrev pub invariant-loop-i : goal.invariant-loop-i
invariant-loop-i l = all_below (mark_of l.bytes l.p l.c) l.i ≡ true
