-- A word of the directory, packed and unpacked, and the entries that a list of words shows.
use Rattle.std.specs.Prelude.{List, ℕ, ◌+◌, ◌*◌, ◌/◌, ◌%◌, get_or}
use Rattle.keeper_model.specs.Store.{Entry}

-- key 16 bits, length 16, offset 32
unfoldable pub key_of : ℕ → ℕ
key_of v = v / 281474976710656 % 65536

unfoldable pub len_of : ℕ → ℕ
len_of v = v / 4294967296 % 65536

unfoldable pub off_of : ℕ → ℕ
off_of v = v % 4294967296

unfoldable pub word_of : Entry → ℕ
word_of e = e.key * 281474976710656 + e.len * 4294967296 + e.off

abbrev pub entry_of : ℕ → Entry
entry_of v = record { key = key_of v; len = len_of v; off = off_of v }

-- place i; past the end an empty one
abbrev pub entries : List ℕ → ℕ → Entry
entries words i = entry_of (get_or words i 0)
