use mathlib.Core.Path.{◌≡◌, ◌∙◌}
use mathlib.Core.Bool.{true, false}
use borrow.Author.Rules.{rules}
use borrow.Author.Tests.{tests}
use Rattle.std.proofs.lemmas.Iterator.{YieldsList-from_slice, IsFirst-from_position}
use Rattle.keeper_model.specs.Store.{is_empty}
use Rattle.keeper_words.specs.Words.{entry_of}
use Rattle.keeper_words.proofs.Search.{position_is}
use Rattle.keeper_words.proofs.first_empty.Goals as goal

pub returns : goal.returns
returns c = c.unwrap_or.ensures ∙ position_is (λ x. is_empty (entry_of x)) c.args.directory.now c.position.result
    (IsFirst-from_position _ _ _ (λ x. is_empty (entry_of x) ≡ true) (λ x. is_empty (entry_of x) ≡ false) c.position.ensures.ran (YieldsList-from_slice c.args.directory.now cc) (λ x q k. search (rules, tests)) (λ x q k. search (rules, tests)))
