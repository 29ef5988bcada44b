use Rattle.std.proofs.Common.{refl, arith}
use Rattle.plain.specs.Chunks.{new_byte, new_bytes}
use Rattle.plain.proofs.Loops.{remade-next, remade-end}
use Rattle.plain_chunks.proofs.new_page.Goals as goal

pub loop-x-init : goal.loop-x-init
loop-x-init c = refl

pub loop-x-preserved : goal.loop-x-preserved
loop-x-preserved c = remade-next (new_byte c.args.p c.args.c) _ _ _ 0 _ c.loop-x.invariant (omega arith) c.new_byte.ensures

pub returns : goal.returns
unfolding new_bytes
returns c = remade-end (new_byte c.args.p c.args.c) _ _ _ c.loop-x.invariant (omega arith)
