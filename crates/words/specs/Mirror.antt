-- Words with their bytes in the other order, as the code reads them.
use Rattle.std.specs.Prelude.{ℕ, ◌+◌, ◌*◌, ◌/◌, ◌%◌, List, get_or, set}

-- the four and the eight bytes from a place on, least significant first
abbrev pub little_half_at : (s : List ℕ) (at : ℕ) → ℕ
little_half_at s at = (get_or s (at + 3) 0 * 256 + get_or s (at + 2) 0) * 65536 + (get_or s (at + 1) 0 * 256 + get_or s at 0)

unfoldable pub little_at : (s : List ℕ) (at : ℕ) → ℕ
little_at s at = little_half_at s (at + 4) * 4294967296 + little_half_at s at

-- two, four and eight bytes turned over
unfoldable pub swap_pair : ℕ → ℕ
swap_pair v = v % 256 * 256 + v / 256 % 256

unfoldable pub swap_half : ℕ → ℕ
swap_half v = swap_pair (v % 65536) * 65536 + swap_pair (v / 65536 % 65536)

unfoldable pub swap_word : ℕ → ℕ
swap_word v = swap_half (v % 4294967296) * 4294967296 + swap_half (v / 4294967296)

-- two, four and eight bytes from a place on, set least significant first
abbrev pub with_little_pair : (s : List ℕ) (at v : ℕ) → List ℕ
with_little_pair s at v = set (set s at (v % 256)) (at + 1) (v / 256)

unfoldable pub with_little_half : (s : List ℕ) (at v : ℕ) → List ℕ
with_little_half s at v = with_little_pair (with_little_pair s at (v % 65536)) (at + 2) (v / 65536)

unfoldable pub with_little_word : (s : List ℕ) (at v : ℕ) → List ℕ
with_little_word s at v = with_little_half (with_little_half s at (v % 4294967296)) (at + 4) (v / 4294967296)
