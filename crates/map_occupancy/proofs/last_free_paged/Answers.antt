use mathlib.Core.Path.{refl}
use Rattle.map_occupancy.proofs.Words.{free_paged_told}
use borrow.Author.Rules.{rules}
use Rattle.map_occupancy.proofs.last_free_paged.Goals as goal

pub returns : goal.returns
returns c = free_paged_told _ _ _ _ _ _ _ c.requires.0 (rw c.mark_word-odd.ensures refl) c.word_count-m.ensures.answer c.words_from.ensures
