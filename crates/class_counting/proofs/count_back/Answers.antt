use Rattle.class_counting.proofs.Words.{back_counted}
use Rattle.class_counting.proofs.count_back.Goals as goal

pub returns : goal.returns
returns c = back_counted c.args.w c.args.pool.now (λ i. (c.slice_known-1.given i).fits) c.args.c _ c.place.ensures _ c.count_one_back.ensures
