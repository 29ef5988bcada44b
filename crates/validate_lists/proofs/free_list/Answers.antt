use Rattle.validate_lists.proofs.Listed.{runs-listed}
use Rattle.validate_lists.proofs.free_list.Goals as goal

pub returns : goal.returns
returns c = runs-listed c.args.w c.args.pool.now c.args.n c.args.t.now c.requires _ _ c.middle-heads.ensures.answer _ c.get_header-h.ensures c.follow.ensures
