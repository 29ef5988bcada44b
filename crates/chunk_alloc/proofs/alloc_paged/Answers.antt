use Rattle.chunk_alloc.proofs.Taken.{some_words, tally_in_lem, map_in, mark_in, paged_lowest, taken_there}
use native.Mathlib.Omega.{arith}
use Rattle.chunk_alloc.proofs.alloc_paged.Goals as goal

pub lowest_paged-i-requires : goal.lowest_paged-i-requires
lowest_paged-i-requires c = (c.paged_word-k.ensures.bound, some_words _ _ c.requires.0 c.word_count.ensures.answer, c.word_count.ensures.bound, map_in _ c.args.pool.now _ _ _ _ c.paged_word-k.ensures.answer c.requires.2 c.requires.1)

pub take_paged-requires : goal.take_paged-requires
take_paged-requires c = let place = c.paged_word-k.ensures.answer in
    (c.requires.0, c.paged_word-k.ensures.bound, mark_in _ _ _ _ _ _ place c.requires.2 c.requires.1 _ _ c.word_count.ensures.answer c.lowest_paged-i.ensures, tally_in_lem _ c.args.pool.now _ _ _ _ place c.requires.2 (omega (arith, c.requires.0)))

pub returns-clause-answer : goal.returns-clause-answer
returns-clause-answer c = let place = c.paged_word-k.ensures.answer in
    paged_lowest _ _ _ _ _ _ place _ _ c.word_count.ensures.answer c.lowest_paged-i.ensures

pub returns-clause-slice : goal.returns-clause-slice
returns-clause-slice c = let place = c.paged_word-k.ensures.answer in
    taken_there _ _ _ _ _ _ place _ _ c.take_paged.ensures
