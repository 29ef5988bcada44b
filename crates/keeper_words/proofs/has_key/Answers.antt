use mathlib.Core.Path.{sym, ◌∙◌}
use Rattle.keeper_model.specs.Store.{holds}
use Rattle.keeper_words.proofs.has_key.Goals as goal

pub returns-then-is_empty : goal.returns-then-is_empty
unfolding holds
returns-then-is_empty c = rw (sym c.is_empty.ensures ∙ c.if-is_empty.true)

pub returns : goal.returns
unfolding holds
returns c = rw (sym c.is_empty.ensures ∙ c.if-is_empty.false, c.key_of.ensures)
