use Rattle.validate_walk.proofs.Open.{open_found, open_past}
use Rattle.validate_walk.proofs.is_open.Goals as goal

pub returns-then-p-n : goal.returns-then-p-n
returns-then-p-n c = open_found c.args.w c.args.pool.now _ _ (λ i. (c.shared_slice_known-1.given i).fits) c.requires.0 c.requires.3 c.if-p-n.true _ _ c.open_inside.ensures

pub returns : goal.returns
returns c = open_past _ _ _ _ c.if-p-n.false
