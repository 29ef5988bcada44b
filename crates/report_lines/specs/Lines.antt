-- The lines of a report (SPEC 11): of a class, of a run, of a block.
use Rattle.std.specs.Prelude.{ℕ, List, [], ◌∷◌, ◌++◌}
use Rattle.model.specs.Classes.{chunk}
use Rattle.model.specs.Live.{Block, small, large}
use Rattle.printing.specs.Text.{phrase, pair_line}

-- ---- words

-- `class `, ` pages `, ` used `, ` total `, ` asks `, ` failures `, `run free `, `run taken `, ` `, `block `, ` class `
abbrev pub class_word : List ℕ
class_word = 99 ∷ 108 ∷ 97 ∷ 115 ∷ 115 ∷ 32 ∷ []

abbrev pub pages_word : List ℕ
pages_word = 32 ∷ 112 ∷ 97 ∷ 103 ∷ 101 ∷ 115 ∷ 32 ∷ []

abbrev pub used_word : List ℕ
used_word = 32 ∷ 117 ∷ 115 ∷ 101 ∷ 100 ∷ 32 ∷ []

abbrev pub total_word : List ℕ
total_word = 32 ∷ 116 ∷ 111 ∷ 116 ∷ 97 ∷ 108 ∷ 32 ∷ []

abbrev pub asks_word : List ℕ
asks_word = 32 ∷ 97 ∷ 115 ∷ 107 ∷ 115 ∷ 32 ∷ []

abbrev pub failures_word : List ℕ
failures_word = 32 ∷ 102 ∷ 97 ∷ 105 ∷ 108 ∷ 117 ∷ 114 ∷ 101 ∷ 115 ∷ 32 ∷ []

abbrev pub free_word : List ℕ
free_word = 114 ∷ 117 ∷ 110 ∷ 32 ∷ 102 ∷ 114 ∷ 101 ∷ 101 ∷ 32 ∷ []

abbrev pub taken_word : List ℕ
taken_word = 114 ∷ 117 ∷ 110 ∷ 32 ∷ 116 ∷ 97 ∷ 107 ∷ 101 ∷ 110 ∷ 32 ∷ []

abbrev pub length_word : List ℕ
length_word = 32 ∷ []

abbrev pub block_word : List ℕ
block_word = 98 ∷ 108 ∷ 111 ∷ 99 ∷ 107 ∷ 32 ∷ []

abbrev pub of_class_word : List ℕ
of_class_word = 32 ∷ 99 ∷ 108 ∷ 97 ∷ 115 ∷ 115 ∷ 32 ∷ []

-- ---- lines

-- `class SIZE pages N used N total N asks N failures N`
unfoldable pub class_line : (size pages used total asks failures : ℕ) → List ℕ
class_line size pages used total asks failures =
    phrase class_word size ++ (phrase pages_word pages ++ (phrase used_word used ++ (phrase total_word total ++
    pair_line asks_word asks failures_word failures)))

-- a run, by its first page and its length
pub data Span : Type 0 where
  free_span : ℕ → ℕ → Span
  taken_span : ℕ → ℕ → Span

-- `run free FIRST LENGTH`, `run taken FIRST LENGTH`
unfoldable pub span_line : Span → List ℕ
span_line (free_span first len) = pair_line free_word first length_word len
span_line (taken_span first len) = pair_line taken_word first length_word len

-- `block OFFSET class SIZE`, `block OFFSET pages N`
unfoldable pub block_line : Block → List ℕ
block_line (small off c) = pair_line block_word off of_class_word (chunk c)
block_line (large off n) = pair_line block_word off pages_word n
