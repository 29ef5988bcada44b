use Rattle.validate_slabs.proofs.Arms.{holds_page}
use Rattle.validate_slabs.proofs.class_page.Goals as goal

pub returns : goal.returns
returns c = holds_page c.args.w c.args.pool.now c.args.p.0 _ (rw (c.map_holds-holds.ensures, c.links_of-l.ensures) at c.all.ensures)
