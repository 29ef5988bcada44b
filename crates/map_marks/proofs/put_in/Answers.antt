use native.Mathlib.Omega.{arith}
use Rattle.maps.proofs.Masks.{or_word, and_word}
use borrow.Author.Rules.{rules}
use Rattle.map_marks.proofs.put_in.Goals as goal

pub returns-then-set : goal.returns-then-set
returns-then-set c = rw (c.if-set.true, c.mark_word.ensures) (or_word _ _ (search rules) (omega arith))

pub returns-else-set : goal.returns-else-set
returns-else-set c = rw (c.if-set.false, c.mark_word-else-set.ensures) (and_word _ _ (search rules) (omega arith))
