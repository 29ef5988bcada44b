use Rattle.validate_pages.proofs.Runs.{stays-spare, here}
use Rattle.validate_pages.proofs.pass_next.Goals as goal

pub returns-then-v-ne0 : goal.returns-then-v-ne0
returns-then-v-ne0 c = stays-spare c.args.w c.args.pool.now c.args.n c.args.p.0 _ c.requires.1 c.packed_links-v.ensures _ _ c.if-v-ne0.true

pub pass_kind-requires : goal.pass_kind-requires
pass_kind-requires c = (here c.args.w c.args.pool.now c.args.n c.args.p.0 _ c.requires.1 c.packed_links-v.ensures c.requires.0 c.requires.2 c.if-v-ne0.false, c.requires.3)
