use Rattle.chunk_alloc.proofs.Taken.{tally_in_lem, map_in, recorded_lowest, taken_there}
use Rattle.chunk_alloc.proofs.alloc_recorded.Goals as goal

pub lowest_in-i-requires : goal.lowest_in-i-requires
lowest_in-i-requires c = map_in _ c.args.pool.now _ _ _ _ c.recorded_word-k.ensures.answer c.requires.3 c.requires.2

pub take_recorded-requires : goal.take_recorded-requires
take_recorded-requires c = let place = c.recorded_word-k.ensures.answer in
    (c.requires.0, map_in _ c.args.pool.now _ _ _ _ place c.requires.3 c.requires.2, tally_in_lem _ c.args.pool.now _ _ _ _ place c.requires.3 c.requires.1)

pub returns-clause-answer : goal.returns-clause-answer
returns-clause-answer c = let place = c.recorded_word-k.ensures.answer in
    recorded_lowest _ _ _ _ _ _ place _ c.requires.0 c.lowest_in-i.ensures

pub returns-clause-slice : goal.returns-clause-slice
returns-clause-slice c = let place = c.recorded_word-k.ensures.answer in
    taken_there _ _ _ _ _ _ place _ _ c.take_recorded.ensures
