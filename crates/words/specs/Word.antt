-- Big-endian numbers in a list of bytes.
use Rattle.std.specs.Prelude.{ℕ, ◌<◌, ◌+◌, ◌*◌, ◌/◌, ◌%◌, List, get_or, set, length, ltb}
use Rattle.base.specs.Tests.{pick}

-- each element is a byte
abbrev pub Bytes : List ℕ → Type 0
Bytes s = (i : ℕ) → get_or s i 0 < 256

-- the two, four and eight bytes from a place on, most significant first
abbrev pub pair_at : (s : List ℕ) (at : ℕ) → ℕ
pair_at s at = get_or s at 0 * 256 + get_or s (at + 1) 0

abbrev pub half_at : (s : List ℕ) (at : ℕ) → ℕ
half_at s at = pair_at s at * 65536 + pair_at s (at + 2)

abbrev pub word_at : (s : List ℕ) (at : ℕ) → ℕ
word_at s at = half_at s at * 4294967296 + half_at s (at + 4)

abbrev pub with_pair : (s : List ℕ) (at v : ℕ) → List ℕ
with_pair s at v = set (set s at (v / 256)) (at + 1) (v % 256)

unfoldable pub with_half : (s : List ℕ) (at v : ℕ) → List ℕ
with_half s at v = with_pair (with_pair s at (v / 65536)) (at + 2) (v % 65536)

unfoldable pub with_word : (s : List ℕ) (at v : ℕ) → List ℕ
with_word s at v = with_half (with_half s at (v / 4294967296)) (at + 4) (v % 4294967296)

-- word k of a list holds bytes 8k to 8k + 7; past the last whole word it is 0, and to set it changes nothing
unfoldable pub word : (s : List ℕ) (k : ℕ) → ℕ
word s k = pick (ltb k (length s / 8)) (word_at s (8 * k)) 0

unfoldable pub set_word : (s : List ℕ) (k v : ℕ) → List ℕ
set_word s k v = pick (ltb k (length s / 8)) (with_word s (8 * k) v) s
