-- Eight bytes joined from the last to the first, and turned over, are the word that they make.
use mathlib.Core.Path.{◌≡◌, ◌∙◌}
use mathlib.Core.List.{List}
use Prim.Native.Nat.{ℕ, ◌+◌, ◌*◌, ◌/◌, ◌%◌, ◌<◌}
use native.Mathlib.Nat.{add_assoc}
use native.Mathlib.Omega.{arith}
use lib.ListN.{get_or}
use Rattle.words.specs.Word.{Bytes, word_at}
use Rattle.words.specs.Mirror.{little_at, swap_pair, swap_half, swap_word}

sum : (a b c d e f g h : ℕ) →
    ((((((a * 256 + b) * 256 + c) * 256 + d) * 256 + e) * 256 + f) * 256 + g) * 256 + h
    ≡ ((a * 256 + b) * 65536 + (c * 256 + d)) * 4294967296 + ((e * 256 + f) * 65536 + (g * 256 + h))
sum a b c d e f g h = omega arith

pub chain : (s : List ℕ) (at : ℕ) →
    ((((((get_or s (at + 7) 0 * 256 + get_or s (at + 6) 0) * 256 + get_or s (at + 5) 0) * 256 + get_or s (at + 4) 0) * 256
    + get_or s (at + 3) 0) * 256 + get_or s (at + 2) 0) * 256 + get_or s (at + 1) 0) * 256 + get_or s at 0
    ≡ little_at s at
unfolding little_at
chain s at = rw (add_assoc at 4 1, add_assoc at 4 2, add_assoc at 4 3) (sum _ _ _ _ _ _ _ _)

-- ---- turned over

swap_pair_lem : (a b : ℕ) → a < 256 → b < 256 → swap_pair (a * 256 + b) ≡ b * 256 + a
unfolding swap_pair
swap_pair_lem a b h k = omega arith

swap_half_lem : (p q : ℕ) → p < 65536 → q < 65536 → swap_half (p * 65536 + q) ≡ swap_pair q * 65536 + swap_pair p
unfolding swap_half
swap_half_lem p q h k =
    let a : (p * 65536 + q) % 65536 ≡ q = omega arith in
    let b : (p * 65536 + q) / 65536 ≡ p = omega arith in
    let c : p % 65536 ≡ p = omega arith in
    rw (a, b, c)

swap_word_lem : (p q : ℕ) → p < 4294967296 → q < 4294967296 → swap_word (p * 4294967296 + q) ≡ swap_half q * 4294967296 + swap_half p
unfolding swap_word
swap_word_lem p q h k =
    let a : (p * 4294967296 + q) % 4294967296 ≡ q = omega arith in
    let b : (p * 4294967296 + q) / 4294967296 ≡ p = omega arith in
    rw (a, b)

four : (a b c d : ℕ) → a < 256 → b < 256 → c < 256 → d < 256
    → swap_half ((d * 256 + c) * 65536 + (b * 256 + a)) ≡ (a * 256 + b) * 65536 + (c * 256 + d)
four a b c d ha hb hc hd =
    swap_half_lem (d * 256 + c) (b * 256 + a) (omega arith) (omega arith) ∙ rw (swap_pair_lem b a hb ha, swap_pair_lem d c hd hc)

pub turned : (s : List ℕ) (at : ℕ) → Bytes s → swap_word (little_at s at) ≡ word_at s at
unfolding little_at
turned s at B =
    rw (add_assoc at 4 1, add_assoc at 4 2, add_assoc at 4 3, add_assoc at 2 1, add_assoc at 6 1)
    (swap_word_lem _ _ (omega (arith, B (at + 7), B (at + 6), B (at + 5), B (at + 4))) (omega (arith, B (at + 3), B (at + 2), B (at + 1), B at))
    ∙ rw (four _ _ _ _ (B at) (B (at + 1)) (B (at + 2)) (B (at + 3)), four _ _ _ _ (B (at + 4)) (B (at + 5)) (B (at + 6)) (B (at + 7))))
