use mathlib.Core.Path.{◌≡◌}
use mathlib.Core.Bool.{true, false}
use borrow.Author.Rules.{rules}
use borrow.Author.Tests.{tests}
use Rattle.std.proofs.lemmas.Iterator.{YieldsList-from_slice, cases_from_all}
use Rattle.rules.specs.Bytes.{read}
use Rattle.keeper_model.specs.Directory.{entry_ok}
use Rattle.keeper_words.specs.Words.{entry_of}
use Rattle.keeper_words.proofs.Search.{all_is}
use Rattle.keeper_room.proofs.words_fit.Goals as goal

pub returns : goal.returns
returns c =
    let a = c.args in
    let m = read a.w a.pool.now in
    all_is (λ x. entry_ok m (entry_of x)) a.directory.now c.all.result
    (cases_from_all _ _ _ (λ x. entry_ok m (entry_of x) ≡ true) (λ x. entry_ok m (entry_of x) ≡ false) c.all.ensures.ran (YieldsList-from_slice a.directory.now cc) (λ x q k. search (rules, tests)) (λ x q k. search (rules, tests)))
