use mathlib.Core.Path.{◌≡◌}
use mathlib.Core.Bool.{true, false}
use borrow.Author.Rules.{rules}
use borrow.Author.Tests.{tests}
use lib.ListN.{take}
use Rattle.std.proofs.lemmas.Iterator.{YieldsList-from_slice, cases_from_all}
use Rattle.keeper_model.specs.Directory.{differ}
use Rattle.keeper_words.specs.Words.{entry_of}
use Rattle.keeper_words.proofs.Search.{all_is, all_first}
use Rattle.keeper_words.proofs.new_among.Goals as goal

pub returns : goal.returns
returns c =
    let a = c.args in
    let first = take a.n a.directory.now in
    all_first (λ x. differ (entry_of a.word) (entry_of x)) a.directory.now a.n c.all.result c.requires
    (all_is (λ x. differ (entry_of a.word) (entry_of x)) first c.all.result
    (cases_from_all _ _ _ (λ x. differ (entry_of a.word) (entry_of x) ≡ true) (λ x. differ (entry_of a.word) (entry_of x) ≡ false) c.all.ensures.ran (YieldsList-from_slice first cc) (λ x q k. search (rules, tests)) (λ x q k. search (rules, tests))))
