use Rattle.std.proofs.Common.{arith}
use Rattle.plain.specs.Plain.{mark_of}
use Rattle.plain_chunks.proofs.Steps.{lowest_here, lowest-none}
use Rattle.plain_chunks.proofs.lowest_free.Goals as goal

pub returns-then-not-is_marked : goal.returns-then-not-is_marked
returns-then-not-is_marked c = let l = c.loop-i in lowest_here (mark_of c.args.bytes.now c.args.p c.args.c) l.i l.invariant c.args.c c.args.n c.requires.1 (omega arith) _ c.is_marked.ensures c.if-not-is_marked.true

pub returns : goal.returns
returns c = let l = c.loop-i in lowest-none (mark_of c.args.bytes.now c.args.p c.args.c) l.i l.invariant c.args.c c.args.n c.requires.1 (omega arith) (omega arith)
