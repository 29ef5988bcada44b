-- The lines that a script program prints for answers.
use Rattle.std.specs.Prelude.{ℕ, List, [], ◌∷◌, eqb}
use Rattle.base.specs.Tests.{pick}
use Rattle.answers.specs.Outcome.{Outcome, number_of}
use Rattle.answers.specs.declared.Refusal.{Refusal}
use Rattle.model.specs.Calls.{Call, Alloc, Free}
use Rattle.printing.specs.Text.{line}

-- `pool `, `at `, `back `, `no `
abbrev pub pool_word : List ℕ
pool_word = 112 ∷ 111 ∷ 111 ∷ 108 ∷ 32 ∷ []

abbrev pub at_word : List ℕ
at_word = 97 ∷ 116 ∷ 32 ∷ []

abbrev pub back_word : List ℕ
back_word = 98 ∷ 97 ∷ 99 ∷ 107 ∷ 32 ∷ []

abbrev pub no_word : List ℕ
no_word = 110 ∷ 111 ∷ 32 ∷ []

unfoldable pub refusal_line : Refusal → List ℕ
refusal_line r = line no_word (number_of r)

-- a call's outcome: where it is granted, the word and the value
unfoldable pub outcome_line : (word : List ℕ) (o : Outcome) → List ℕ
outcome_line word o = pick (eqb o.number 0) (line word o.value) (line no_word o.number)

unfoldable pub format_line : Outcome → List ℕ
format_line o = outcome_line pool_word o

unfoldable pub alloc_line : Outcome → List ℕ
alloc_line o = outcome_line at_word o

unfoldable pub free_line : Outcome → List ℕ
free_line o = outcome_line back_word o

unfoldable pub reply_line : Call → Outcome → List ℕ
reply_line (Alloc n) o = alloc_line o
reply_line (Free off) o = free_line o
