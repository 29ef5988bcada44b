-- The first broken rule of n pages from rule 2 and from rule 3 on.
use Rattle.std.specs.Prelude.{ℕ, false, List}
use Rattle.base.specs.Tests.{pick}
use Rattle.rules.specs.Rules.{rule2, rule3, rule4, rule5, rule6}
use Rattle.rules.specs.Bytes.{fields_of, peaks_fit}

unfoldable pub from_rule3 : (w : ℕ) (s : List ℕ) (n : ℕ) → ℕ
from_rule3 w s n =
    pick (rule3 (fields_of w s) n)
    (pick (rule4 (fields_of w s) n)
    (pick (rule5 (fields_of w s) n) (pick (pick (rule6 (fields_of w s) n) (peaks_fit w s) false) 0 6) 5) 4) 3

unfoldable pub from_rule2 : (w : ℕ) (s : List ℕ) (n : ℕ) → ℕ
from_rule2 w s n = pick (rule2 (fields_of w s) n) (from_rule3 w s n) 2
