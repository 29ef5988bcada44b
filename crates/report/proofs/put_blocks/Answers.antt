use borrow.Author.Rules.{rules}
use native.Mathlib.Omega.{arith}
use Rattle.rules.specs.Bytes.{read}
use Rattle.report.proofs.Room.{blocks-few}
use Rattle.report.proofs.Chunks.{blocks-none, blocks_more, blocks-all}
use Rattle.report.proofs.put_blocks.Goals as goal

pub loop-p-init : goal.loop-p-init
loop-p-init c = blocks-none _ _ _

pub put_page_at-next-requires : goal.put_page_at-next-requires
put_page_at-next-requires c = (c.requires.0, search rules, omega (arith, c.loop-p.invariant.0, blocks-few (read 2 c.args.image.now).page c.loop-p.p, c.requires.0.few, c.requires.1))

pub loop-p-preserved : goal.loop-p-preserved
loop-p-preserved c = blocks_more _ _ _ _ _ _ _ _ c.loop-p.invariant c.put_page_at-next.ensures

pub returns : goal.returns
returns c = blocks-all _ _ _ _ _ _ _ c.requires.0.pages (search rules) (search rules) c.loop-p.invariant
