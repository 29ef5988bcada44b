use Rattle.std.proofs.Common.{sym, ◌∙◌}
use Rattle.alloc_sound.proofs.Ways.{chunk-sized, of_class, of_runs}
use Rattle.alloc_sound.proofs.take.Goals as goal

pub alloc_small-requires : goal.alloc_small-requires
alloc_small-requires c = let z = chunk-sized c.args.w c.args.pool.now c.args.pages c.args.size (sym c.takes_chunk.ensures ∙ c.if-takes_chunk.true) in
    (z.0, z.1, c.requires)

pub returns-then-takes_chunk-clause-answer : goal.returns-then-takes_chunk-clause-answer
returns-then-takes_chunk-clause-answer c = let z = of_class _ _ _ _ (sym c.takes_chunk.ensures ∙ c.if-takes_chunk.true) in
    c.alloc_small.ensures.answer ∙ sym z.0

pub returns-then-takes_chunk-clause-slice : goal.returns-then-takes_chunk-clause-slice
returns-then-takes_chunk-clause-slice c = let z = of_class _ _ _ _ (sym c.takes_chunk.ensures ∙ c.if-takes_chunk.true) in
    c.alloc_small.ensures.slice ∙ sym z.1

pub returns-else-takes_chunk-clause-answer : goal.returns-else-takes_chunk-clause-answer
returns-else-takes_chunk-clause-answer c = let z = of_runs _ _ _ _ (sym c.takes_chunk.ensures ∙ c.if-takes_chunk.false) in
    c.from_runs.ensures.answer ∙ sym z.0

pub returns-else-takes_chunk-clause-slice : goal.returns-else-takes_chunk-clause-slice
returns-else-takes_chunk-clause-slice c = let z = of_runs _ _ _ _ (sym c.takes_chunk.ensures ∙ c.if-takes_chunk.false) in
    c.from_runs.ensures.slice ∙ sym z.1
