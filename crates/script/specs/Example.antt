-- The worked case (SPEC 9.3).
use Rattle.std.specs.Prelude.{◌≡◌, ℕ, List, [], ◌∷◌, ◌++◌}
use Rattle.printing.specs.Text.{line}
use Rattle.script_replies.specs.Replies.{pool_word, at_word, back_word, no_word}
use Rattle.script_summary.specs.Summary.{summary_line}
use Rattle.script.specs.Script.{printout}

-- `take `, `give `
abbrev pub take_word : List ℕ
take_word = 116 ∷ 97 ∷ 107 ∷ 101 ∷ 32 ∷ []

abbrev pub give_word : List ℕ
give_word = 103 ∷ 105 ∷ 118 ∷ 101 ∷ 32 ∷ []

abbrev pub WholeCase : Type 0
WholeCase =
    printout (
    line take_word 30 ++ (line take_word 64 ++ (line take_word 5000 ++ (line give_word 32 ++ (line give_word 32 ++ line take_word 0)))))
    ≡
    line pool_word 12 ++ (line at_word 32 ++ (line at_word 4096 ++ (line at_word 8192 ++ (line back_word 32 ++ (line no_word 6 ++ (line no_word 10 ++
    summary_line 9 2))))))
