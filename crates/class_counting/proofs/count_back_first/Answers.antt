use Rattle.class_counting.proofs.Words.{back-first-counted}
use Rattle.std.proofs.Common.{rules}
use Rattle.class_counting.proofs.count_back_first.Goals as goal

pub returns : goal.returns
returns c = back-first-counted c.args.w c.args.pool.now (λ i. (c.slice_known-1.given i).fits) c.args.c _ c.place.ensures c.args.p.0 (search rules) _ c.count_first_back.ensures
