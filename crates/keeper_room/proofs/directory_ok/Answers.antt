use mathlib.Core.Path.{sym, ◌∙◌}
use native.Mathlib.Omega.{arith}
use Rattle.keeper_room.proofs.Directory.{no-places, too_many, one_unfit, all_fit}
use Rattle.keeper_room.proofs.directory_ok.Goals as goal

pub returns-then-directory-lt1 : goal.returns-then-directory-lt1
returns-then-directory-lt1 c = no-places _ _ _ c.if-directory-lt1.true

pub returns-then-directory-gt-MOST_PLACES : goal.returns-then-directory-gt-MOST_PLACES
returns-then-directory-gt-MOST_PLACES c = too_many _ _ _ (omega arith) c.if-directory-gt-MOST_PLACES.true

pub returns-then-not-words_fit : goal.returns-then-not-words_fit
returns-then-not-words_fit c = one_unfit _ _ _ (omega arith) (omega arith) (sym c.words_fit.ensures ∙ c.if-not-words_fit.true)

pub returns : goal.returns
returns c = c.all_differ.ensures ∙ all_fit _ _ _ (omega arith) (omega arith) (sym c.words_fit.ensures ∙ c.if-not-words_fit.false)
