use mathlib.Core.Path.{sym, ◌∙◌}
use borrow.Author.Tests.{eq-eqb, ne_eqb}
use Rattle.keeper_words.proofs.unlike.Goals as goal

pub returns-then-key_of : goal.returns-then-key_of
returns-then-key_of c = rw (eq-eqb _ _ (sym c.key_of.ensures ∙ c.if-key_of.true ∙ c.key_of-2.ensures))

pub returns : goal.returns
returns c = rw (ne_eqb _ _ (λ z. c.if-key_of.false (c.key_of.ensures ∙ z ∙ sym c.key_of-2.ensures)), c.off_of.ensures, c.off_of-2.ensures)
