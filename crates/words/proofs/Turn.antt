-- A word turned over and set least significant byte first is the word set.
use mathlib.Core.Path.{◌≡◌}
use mathlib.Core.List.{List}
use Prim.Native.Nat.{ℕ, ◌+◌, ◌/◌, ◌%◌, ◌<◌}
use native.Mathlib.Omega.{arith}
use Rattle.words.specs.Word.{with_pair, with_half, with_word}
use Rattle.words.specs.Mirror.{swap_pair, swap_half, swap_word, with_little_pair, with_little_half, with_little_word}

pair_below : (v : ℕ) → swap_pair v < 65536
unfolding swap_pair
pair_below v = omega arith

pair_low : (v : ℕ) → v < 65536 → swap_pair v % 256 ≡ v / 256
unfolding swap_pair
pair_low v h = omega arith

pair_high : (v : ℕ) → swap_pair v / 256 ≡ v % 256
unfolding swap_pair
pair_high v = omega arith

pair_turned : (s : List ℕ) (at v : ℕ) → v < 65536 → with_little_pair s at (swap_pair v) ≡ with_pair s at v
pair_turned s at v h = rw (pair_low v h, pair_high v)

half_below : (v : ℕ) → swap_half v < 4294967296
unfolding swap_half
half_below v = omega (arith, pair_below (v % 65536), pair_below (v / 65536 % 65536))

half_low : (v : ℕ) → v < 4294967296 → swap_half v % 65536 ≡ swap_pair (v / 65536)
unfolding swap_half
half_low v h =
    let e : v / 65536 % 65536 ≡ v / 65536 = omega arith in
    rw e (omega (arith, pair_below (v / 65536)))

half_high : (v : ℕ) → swap_half v / 65536 ≡ swap_pair (v % 65536)
unfolding swap_half
half_high v = omega (arith, pair_below (v / 65536 % 65536))

half_turned : (s : List ℕ) (at v : ℕ) → v < 4294967296 → with_little_half s at (swap_half v) ≡ with_half s at v
unfolding with_little_half with_half
half_turned s at v h =
    rw (half_low v h, half_high v, pair_turned s at (v / 65536) (omega arith))
    (pair_turned (with_pair s at (v / 65536)) (at + 2) (v % 65536) (omega arith))

word_low : (v : ℕ) → swap_word v % 4294967296 ≡ swap_half (v / 4294967296)
unfolding swap_word
word_low v = omega (arith, half_below (v / 4294967296))

word-high : (v : ℕ) → swap_word v / 4294967296 ≡ swap_half (v % 4294967296)
unfolding swap_word
word-high v = omega (arith, half_below (v / 4294967296))

pub word_turned : (s : List ℕ) (at v : ℕ) → v < 18446744073709551616 → with_little_word s at (swap_word v) ≡ with_word s at v
unfolding with_little_word with_word
word_turned s at v h =
    rw (word_low v, word-high v, half_turned s at (v / 4294967296) (omega arith))
    (half_turned (with_half s at (v / 4294967296)) (at + 4) (v % 4294967296) (omega arith))
