use borrow.Author.Rules.{rules}
use native.Mathlib.Omega.{arith}
use Rattle.classes.proofs.Numbers.{chunks_512}
use Rattle.rules.specs.Bytes.{mark_at}
use Rattle.report.proofs.Room.{chunks-few}
use Rattle.report.proofs.Chunks.{chunks-none, chunks_more, chunks-all}
use Rattle.report.proofs.put_chunks.Goals as goal

pub loop-i-init : goal.loop-i-init
loop-i-init c = chunks-none _ _ _ _ _

pub put_marked-next-requires : goal.put_marked-next-requires
put_marked-next-requires c = (c.requires.1, omega (arith, c.loop-i.invariant.0, c.class_chunks-end.ensures, chunks-few c.args.c c.args.p (mark_at 2 c.args.image.now c.args.p c.args.c) c.loop-i.i, chunks_512 c.args.c, c.requires.2))

pub loop-i-preserved : goal.loop-i-preserved
loop-i-preserved c = chunks_more _ _ _ _ _ _ _ _ _ _ _ _ _ _ c.own_count-own.ensures.answer c.requires.0 c.map_base-base.ensures (omega (arith, c.class_chunks-end.ensures)) c.get_mark-marked.ensures c.loop-i.invariant c.put_marked-next.ensures

pub returns : goal.returns
returns c = chunks-all _ _ _ _ _ _ _ _ _ c.class_chunks-end.ensures (search rules) (search rules) c.loop-i.invariant
