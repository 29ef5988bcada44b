use Rattle.std.proofs.Common.{arith}
use borrow.Author.Tests.{le-ltb}
use Rattle.plain_chunks.proofs.Steps.{mark-read, mark-none}
use Rattle.plain_chunks.proofs.is_marked.Goals as goal

pub returns-then-at-bytes : goal.returns-then-at-bytes
returns-then-at-bytes c = mark-read c.args.bytes.now c.args.p c.args.c c.args.n c.args.i c.requires.1 c.requires.2

pub returns-else-at-bytes : goal.returns-else-at-bytes
returns-else-at-bytes c =
    rw (le-ltb _ _ c.if-at-bytes.false) (mark-none c.args.bytes.now c.args.p c.args.c c.args.n c.args.i c.requires.1 c.requires.2 (omega arith))
