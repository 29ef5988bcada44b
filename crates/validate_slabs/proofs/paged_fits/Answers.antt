use Rattle.validate_slabs.proofs.Arms.{paged}
use Rattle.validate_slabs.proofs.paged_fits.Goals as goal

pub returns : goal.returns
returns c = paged c.args.w c.args.pool.now c.args.p.0 c.args.c _ _ _ c.requires.3 c.own_marked-marked.ensures c.map_of-map.ensures c.both.ensures
