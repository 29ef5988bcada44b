use Rattle.validate_slabs.proofs.Arms.{recorded}
use Rattle.validate_slabs.proofs.recorded_fits.Goals as goal

pub returns : goal.returns
returns c = recorded c.args.w c.args.pool.now c.args.p.0 c.args.c _ _ c.requires c.map_of.ensures c.unused_clear.ensures
