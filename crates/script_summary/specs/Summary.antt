-- The last line of a printout: the free pages and the free runs.
use Rattle.std.specs.Prelude.{ℕ, List, [], ◌∷◌, ◌++◌}
use Rattle.base.specs.Count.{count}
use Rattle.records.specs.Header.{header_at}
use Rattle.rules.specs.Read.{is_head}
use Rattle.rules.specs.Bytes.{pages_in, fields_of}
use Rattle.printing.specs.Text.{phrase, line}

-- `free `, ` runs `
abbrev pub free_word : List ℕ
free_word = 102 ∷ 114 ∷ 101 ∷ 101 ∷ 32 ∷ []

abbrev pub runs_word : List ℕ
runs_word = 32 ∷ 114 ∷ 117 ∷ 110 ∷ 115 ∷ 32 ∷ []

unfoldable pub summary_line : (free runs : ℕ) → List ℕ
summary_line free runs = phrase free_word free ++ line runs_word runs

-- ---- as the records of a pool tell it

-- first pages of free runs
unfoldable pub free_runs : (w : ℕ) (s : List ℕ) → ℕ
free_runs w s = count (is_head (fields_of w s) (pages_in w s)) (pages_in w s)

unfoldable pub summary_of : (w : ℕ) (s : List ℕ) → List ℕ
summary_of w s = summary_line (header_at s).free_pages (free_runs w s)
