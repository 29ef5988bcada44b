use Rattle.std.proofs.Common.{arith, length-set}
use borrow.Author.Tests.{le-leb, lt-leb}
use Rattle.plain.specs.Chunks.{is_no_page, listed_first}
use Rattle.plain.proofs.Loops.{push_here, push-next, push-end}
use Rattle.plain_chunks.proofs.list_first.Goals as goal

pub loop-place-preserved : goal.loop-place-preserved
unfolding is_no_page
loop-place-preserved c =
    (simp length-set c.loop-place.invariant.0, push-next is_no_page _ _ _ 0 _ c.loop-place.invariant.1 (omega arith) (lt-leb _ _ c.if-x-ge12.false))

pub returns-after-loop-place : goal.returns-after-loop-place
unfolding listed_first
returns-after-loop-place c = push-end is_no_page _ _ _ _ c.loop-place.invariant.1 (omega arith)

pub returns-then-x-ge12 : goal.returns-then-x-ge12
unfolding is_no_page listed_first
returns-then-x-ge12 c = push_here is_no_page _ _ _ 0 _ c.loop-place.invariant.1 (omega arith) (le-leb _ _ c.if-x-ge12.true)
