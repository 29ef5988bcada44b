-- Chunk maps in a pool's bytes: which chunks of a page are taken.
-- A map is named by the place `base` of its first byte in the pool. Mark i of it is bit 7 - i % 8 of byte base + i / 8, so that
-- chunk 0 has the top bit of the first byte; a mark is set where its chunk is taken.
use Rattle.std.specs.Prelude.{ℕ, zero, suc, ◌+◌, ◌-◌, ◌*◌, ◌/◌, ◌%◌, ◌^◌, Bool, List, eqb, get_or, set}
use Rattle.base.specs.Count.{bit}
use Rattle.base.specs.Functions.{upd}

-- bit j of a byte, from the top
abbrev pub bit_of : (b j : ℕ) → Bool
bit_of b j = eqb (b / 2 ^ (7 - j) % 2) 1

-- mark i of the map at base
unfoldable pub mark : (s : List ℕ) (base i : ℕ) → Bool
mark s base i = bit_of (get_or s (base + i / 8) 0) (i % 8)

-- the first k marks as a number, mark 0 on top
unfoldable pub bits_of : (ℕ → Bool) → ℕ → ℕ
bits_of m zero = 0
bits_of m (suc k) = 2 * bits_of m k + bit (m k)

-- a byte with its bit j, from the top, set or clear
unfoldable pub with_bit : (b j : ℕ) (v : Bool) → ℕ
with_bit b j v = bits_of (upd (bit_of b) j v) 8

-- the pool with mark i of the map at base set or clear; a mark outside the pool is not written
unfoldable pub with_mark : (s : List ℕ) (base i : ℕ) (v : Bool) → List ℕ
with_mark s base i v = set s (base + i / 8) (with_bit (get_or s (base + i / 8) 0) (i % 8) v)
