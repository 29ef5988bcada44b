use Rattle.map_occupancy.proofs.Words.{free_recorded_told}
use borrow.Author.Rules.{rules}
use Rattle.map_occupancy.proofs.last_free_recorded.Goals as goal

pub returns : goal.returns
returns c = free_recorded_told _ _ _ c.requires.0 c.args.i _ _ c.full_word.ensures (rw c.mark_word.ensures at c.word_in_is.ensures)
