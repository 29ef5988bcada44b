use mathlib.Core.Path.{◌≡◌}
use mathlib.Core.Bool.{true, false}
use borrow.Author.Rules.{rules}
use borrow.Author.Tests.{tests}
use Rattle.std.proofs.lemmas.Iterator.{YieldsList-from_slice, cases_from_all}
use Rattle.script_numbers.specs.Numeral.{is_digit}
use Rattle.script_numbers.proofs.Values.{all_is}
use Rattle.script_numbers.proofs.all_digits.Goals as goal

pub returns : goal.returns
returns c = all_is is_digit _ _ (cases_from_all _ _ _ (λ x. is_digit x ≡ true) (λ x. is_digit x ≡ false) c.all.ensures.ran (YieldsList-from_slice c.args.s.now cc) (λ x q k. search (rules, tests)) (λ x q k. search (rules, tests)))
