use mathlib.Core.Path.{sym, ◌∙◌}
use borrow.Author.Tests.{lt-ltb}
use Rattle.keeper_model.specs.Directory.{fits_in}
use Rattle.keeper_words.proofs.Words.{key-small, len-small}
use Rattle.keeper_words.proofs.fits_in.Goals as goal

pub returns-then-is_empty : goal.returns-then-is_empty
unfolding fits_in
returns-then-is_empty c = rw (sym c.is_empty.ensures ∙ c.if-is_empty.true) c.is_blank.ensures

pub returns : goal.returns
unfolding fits_in
returns c = let word = c.args.word in
    rw (sym c.is_empty.ensures ∙ c.if-is_empty.false, lt-ltb _ _ (key-small word), lt-ltb _ _ (len-small word), c.len_of.ensures)
