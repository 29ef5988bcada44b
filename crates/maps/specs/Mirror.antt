-- What the code does with chunk maps: the bits of a word, the search for a free chunk, and a new page's map.
use Rattle.std.specs.Prelude.{ℕ, zero, suc, ◌+◌, ◌-◌, ◌*◌, ◌/◌, ◌%◌, ◌^◌, Bool, not, List, [], ◌∷◌, ◌++◌, eqb, leb, ltb, length, take, drop}
use Rattle.base.specs.Functions.{upd}
use Rattle.base.specs.Search.{least}
use Rattle.base.specs.Tests.{pick}
use Rattle.maps.specs.Bitmap.{mark, bits_of}

-- bit j of a word, from the top
abbrev pub word_bit : (v j : ℕ) → Bool
word_bit v j = eqb (v / 2 ^ (63 - j) % 2) 1

-- a word with its bit j, from the top, set or clear
unfoldable pub with_word_bit : (v j : ℕ) (b : Bool) → ℕ
with_word_bit v j b = bits_of (upd (word_bit v) j b) 64

-- the lowest of the first n marks that is clear; n where all are set
unfoldable pub lowest_clear : (s : List ℕ) (base n : ℕ) → ℕ
lowest_clear s base n = least (λ i. not (mark s base i)) n

-- the n bytes of a map that has the marks m
unfoldable pub map_bytes : (ℕ → Bool) → ℕ → List ℕ
map_bytes m zero = []
map_bytes m (suc n) = map_bytes m n ++ (bits_of (λ i. m (8 * n + i)) 8 ∷ [])

-- the n bytes of a map whose first k marks are set
unfoldable pub new_map : (n k : ℕ) → List ℕ
new_map n k = map_bytes (λ i. ltb i k) n

-- s with the elements from index at on replaced by ys, as many as ys has
unfoldable pub splice : (s : List ℕ) (at : ℕ) (ys : List ℕ) → List ℕ
splice s at ys = take at s ++ (ys ++ drop (at + length ys) s)

-- the pool with a new map of n bytes at base; a map that does not lie inside the pool is not written
unfoldable pub with_new_map : (s : List ℕ) (base n k : ℕ) → List ℕ
with_new_map s base n k = pick (leb (base + n) (length s)) (splice s base (new_map n k)) s
