-- Text in ASCII: numbers in decimal, lines, and text written into a slice.
use Rattle.std.specs.Prelude.{ℕ, zero, suc, ◌+◌, ◌*◌, ◌/◌, ◌%◌, ◌≡◌, List, [], ◌∷◌, ◌++◌, ltb, length}
use Rattle.std.proofs.lemmas.List.Edits.{sets}
use Rattle.base.specs.Tests.{pick}

-- ---- numbers

unfoldable pub ten_to : ℕ → ℕ
ten_to zero = 1
ten_to (suc k) = 10 * ten_to k

-- the last k digits of v, the most significant first
unfoldable pub digits : ℕ → ℕ → List ℕ
digits v zero = []
digits v (suc k) = (48 + v / ten_to k % 10) ∷ digits v k

-- how many digits v has: of at most ten, more than five
unfoldable pub many_places : ℕ → ℕ
many_places v = pick (ltb v 1000000) 6 (pick (ltb v 10000000) 7 (pick (ltb v 100000000) 8 (pick (ltb v 1000000000) 9 10)))

unfoldable pub places : ℕ → ℕ
places v = pick (ltb v 10) 1 (pick (ltb v 100) 2 (pick (ltb v 1000) 3 (pick (ltb v 10000) 4 (pick (ltb v 100000) 5 (many_places v)))))

unfoldable pub decimal : ℕ → List ℕ
decimal v = digits v (places v)

-- ---- lines

-- a word and a number
unfoldable pub phrase : (word : List ℕ) (v : ℕ) → List ℕ
phrase word v = word ++ decimal v

-- the same, ended by a newline
unfoldable pub line : (word : List ℕ) (v : ℕ) → List ℕ
line word v = phrase word v ++ (10 ∷ [])

-- a word and a number, and once more, ended by a newline
unfoldable pub pair_line : (first : List ℕ) (x : ℕ) (second : List ℕ) (y : ℕ) → List ℕ
pair_line first x second y = phrase first x ++ line second y

-- the lines of a list, one for each element
abbrev pub lines_of : {A : Type 0} → (A → List ℕ) → List A → List ℕ
lines_of f [] = []
lines_of f (x ∷ xs) = f x ++ lines_of f xs

-- ---- into a slice

-- the text from place n on; what would lie past the end is dropped
unfoldable pub written : (s : List ℕ) (n : ℕ) (text : List ℕ) → List ℕ
written s n text = sets s n text

-- a function that prints a text from place n on makes u of the slice s, and answers the place r after it
abbrev pub Prints : (s u : List ℕ) (n r : ℕ) (text : List ℕ) → Type 0
Prints s u n r text = (r ≡ n + length text) × (u ≡ written s n text)
