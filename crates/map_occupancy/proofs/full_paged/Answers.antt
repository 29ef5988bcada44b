use Rattle.map_occupancy.proofs.Words.{full_paged_told}
use borrow.Author.Rules.{rules}
use Rattle.map_occupancy.proofs.full_paged.Goals as goal

pub returns : goal.returns
returns c = full_paged_told _ _ _ _ _ c.requires.0 c.word_count-m.ensures.answer c.all_words.ensures
