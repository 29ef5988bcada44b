use Rattle.std.proofs.Common.{refl, arith}
use Rattle.plain.specs.Mirror.{ready_in}
use Rattle.plain.proofs.Loops.{place-start, place_here, place-next, place_end}
use Rattle.plain_ready.proofs.Scan.{at_place, past-place}
use Rattle.plain_ready.proofs.first_ready.Goals as goal

pub loop-p-init : goal.loop-p-init
loop-p-init c = (omega arith, place-start (ready_in _ _) _)

pub loop-p-preserved : goal.loop-p-preserved
loop-p-preserved c = (c.loop-p.invariant.0, place-next (ready_in c.args.pages c.args.c) _ _ c.loop-p.invariant.1 0 _ (omega arith) c.is_ready.ensures c.if-is_ready.false)

pub returns-then-is_ready : goal.returns-then-is_ready
returns-then-is_ready c =
    at_place _ c.loop-p.p-index _ 0 255 _ (omega arith)
    (place_here (ready_in c.args.pages c.args.c) _ _ c.loop-p.invariant.1 0 _ (omega arith) c.is_ready.ensures c.if-is_ready.true) refl

pub returns : goal.returns
returns c = past-place _ _ 12 255 c.loop-p.invariant.0 (place_end (ready_in c.args.pages c.args.c) _ _ c.loop-p.invariant.1 12 (omega arith) (omega arith) (omega arith))
