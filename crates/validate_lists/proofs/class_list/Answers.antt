use Rattle.validate_lists.proofs.Listed.{class-listed}
use Rattle.validate_lists.proofs.class_list.Goals as goal

pub returns : goal.returns
returns c = class-listed c.args.w c.args.pool.now c.args.n c.args.t.now c.requires.0 _ _ _ c.requires.1 c.high-open.ensures _ c.get_class-r.ensures c.follow.ensures
