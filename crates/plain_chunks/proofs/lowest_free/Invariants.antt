use Rattle.plain.specs.Plain.{mark_of}
use Rattle.plain_chunks.proofs.Steps.{Passed}
use Rattle.plain_chunks.proofs.lowest_free.Given as goal

abbrev pub invariant-loop-i : goal.invariant-loop-i
invariant-loop-i l = Passed (mark_of l.bytes l.p l.c) l.i
