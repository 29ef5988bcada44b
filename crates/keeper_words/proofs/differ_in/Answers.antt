use mathlib.Core.Path.{sym, ◌∙◌}
use Rattle.keeper_model.specs.Directory.{differ}
use Rattle.keeper_words.proofs.differ_in.Goals as goal

pub returns-then-is_empty : goal.returns-then-is_empty
unfolding differ
returns-then-is_empty c = rw (sym c.is_empty.ensures ∙ c.if-is_empty.true)

pub returns-then-is_empty-2 : goal.returns-then-is_empty-2
unfolding differ
returns-then-is_empty-2 c = rw (sym c.is_empty.ensures ∙ c.if-is_empty.false, sym c.is_empty-2.ensures ∙ c.if-is_empty-2.true)

pub returns : goal.returns
unfolding differ
returns c = rw (sym c.is_empty.ensures ∙ c.if-is_empty.false, sym c.is_empty-2.ensures ∙ c.if-is_empty-2.false) c.unlike.ensures
