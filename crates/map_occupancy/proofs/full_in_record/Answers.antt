use Rattle.map_occupancy.proofs.Words.{full_recorded_told}
use borrow.Author.Rules.{rules}
use Rattle.map_occupancy.proofs.full_in_record.Goals as goal

pub returns : goal.returns
returns c = full_recorded_told _ _ _ c.requires _ _ c.full_word.ensures c.word_is.ensures
