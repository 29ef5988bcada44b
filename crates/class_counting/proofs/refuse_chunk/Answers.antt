use Rattle.class_counting.proofs.Words.{none-counted}
use Rattle.std.proofs.Common.{rules}
use Rattle.class_counting.proofs.refuse_chunk.Goals as goal

pub returns : goal.returns
returns c = search (rules, none-counted c.args.w c.args.pool.now (λ i. (c.slice_known-1.given i).fits))
