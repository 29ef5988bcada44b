use mathlib.Core.Path.{sym, ◌∙◌}
use borrow.Author.Tests.{eq-eqb, ne_eqb}
use Rattle.keeper_words.proofs.is_blank.Goals as goal

pub returns-then-key_of-eq0 : goal.returns-then-key_of-eq0
returns-then-key_of-eq0 c = rw (eq-eqb _ 0 (sym c.key_of.ensures ∙ c.if-key_of-eq0.true), c.off_of.ensures)

pub returns : goal.returns
returns c = rw (ne_eqb _ 0 (λ z. c.if-key_of-eq0.false (c.key_of.ensures ∙ z)))
