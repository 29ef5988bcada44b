use mathlib.Core.Path.{refl}
use Rattle.map_occupancy.proofs.Words.{last_taken-told}
use borrow.Author.Rules.{rules}
use Rattle.map_occupancy.proofs.last_taken.Goals as goal

pub returns : goal.returns
returns c = last_taken-told _ _ _ _ _ _ _ _ c.requires.1 c.class_own_word-own.ensures
    (rw (c.first_or_none.ensures, c.mark_word.ensures) refl) c.map_words-m.ensures.answer c.words_from.ensures
