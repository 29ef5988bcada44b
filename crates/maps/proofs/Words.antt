-- The marks of a map of n bytes are the bits of the bytes' big-endian number; those of a map that is a word, of the word.
use mathlib.Core.Path.{◌≡◌, refl, sym, ap, ◌∙◌}
use mathlib.Core.Bool.{Bool}
use mathlib.Core.List.{List}
use Prim.Native.Nat.{ℕ, zero, suc, ◌+◌, ◌*◌, ◌/◌, ◌<◌}
use native.Mathlib.Omega.{arith}
use lib.ListN.{length, get_or}
use Rattle.base.specs.Functions.{upd}
use Rattle.words.specs.Word.{Bytes, word_at, word, with_word, set_word}
use Rattle.words.proofs.Laws.{words, word_in, set_in, word_small, set_word-back}
use Rattle.maps.specs.Bitmap.{mark, bits_of, with_mark}
use Rattle.maps.specs.Mirror.{word_bit, with_word_bit, map_bytes, splice}
use Rattle.maps.proofs.Bits.{bits_small, bits_join, bits_at, bits_injective, byte_is, word-is}
use Rattle.maps.proofs.Marks.{mark_at_lem}
use Rattle.maps.proofs.Maps.{map_unique, map-with_mark}

-- ---- n bytes

-- the n bytes from index at on as one number, most significant first
unfoldable pub number_at : List ℕ → ℕ → ℕ → ℕ
number_at s at zero = 0
number_at s at (suc n) = number_at s at n * 256 + get_or s (at + n) 0

pub number-marks : (s : List ℕ) (base n : ℕ) → ((j : ℕ) → j < n → get_or s (base + j) 0 < 256) → number_at s base n ≡ bits_of (mark s base) (8 * n)
unfolding number_at bits_of
number-marks s base zero B = refl
number-marks s base (suc n) B =
    let e : 8 * suc n ≡ 8 * n + 8 = omega arith in
    let b : get_or s (base + n) 0 ≡ bits_of (λ i. mark s base (8 * n + i)) 8 =
    byte_is (get_or s (base + n) 0) (λ i. mark s base (8 * n + i)) (B n (omega arith)) (λ i l. sym (mark_at_lem s base n i l)) in
    rw (e, bits_join (mark s base) (8 * n) 8, b, number-marks s base n (λ j l. B j (omega arith)))

-- ---- a word

word_number : (s : List ℕ) (at : ℕ) → word_at s at ≡ number_at s at 8
unfolding number_at
word_number s at =
    let a : at + 0 ≡ at = omega arith in
    let b : at + 2 + 1 ≡ at + 3 = omega arith in
    let c : at + 4 + 1 ≡ at + 5 = omega arith in
    let d : at + 4 + 2 ≡ at + 6 = omega arith in
    let e : at + 6 + 1 ≡ at + 7 = omega arith in
    rw (a, b, c, d, e) (omega arith)

pub bytes-marks : (s : List ℕ) (at : ℕ) → Bytes s → word_at s at ≡ bits_of (mark s at) 64
bytes-marks s at B = word_number s at ∙ number-marks s at 8 (λ j l. B (at + j))

-- the map that is word k of the pool
module _ (s : List ℕ) (B : Bytes s) (k : ℕ) (h : k < length s / 8) where
  pub word-marks : word s k ≡ bits_of (mark s (8 * k)) 64
  word-marks = word_in s k h ∙ bytes-marks s (8 * k) B

  -- its marks are m where the word is that of m
  pub word-mark : (m : ℕ → Bool) → word s k ≡ bits_of m 64 → (i : ℕ) → i < 64 → mark s (8 * k) i ≡ m i
  word-mark m e = bits_injective (mark s (8 * k)) m 64 (sym word-marks ∙ e)

  -- to store the word is to write the map
  pub set_word-map : (m : ℕ → Bool) → set_word s k (bits_of m 64) ≡ splice s (8 * k) (map_bytes m 8)
  set_word-map m =
      set_in s k w h
      ∙ map_unique s (8 * k) 8 (omega arith) m t (words.len s (8 * k) w) (words.outside s (8 * k) w) (λ j l. bytes (8 * k + j))
      (bits_injective (mark t (8 * k)) m 64 (sym (bytes-marks t (8 * k) bytes) ∙ words.same s (8 * k) w (omega arith)))
    where
      w : ℕ
      w = bits_of m 64

      t : List ℕ
      t = with_word s (8 * k) w

      bytes : Bytes t
      bytes = words.keeps s (8 * k) w B (bits_small m 64)

  -- to write one mark is to store the word with that mark
  pub with_mark-word : (m : ℕ → Bool) → word s k ≡ bits_of m 64 → (i : ℕ) (v : Bool) → i < 64 → with_mark s (8 * k) i v ≡ set_word s k (bits_of (upd m i v) 64)
  with_mark-word m e i v l =
      let z : s ≡ splice s (8 * k) (map_bytes m 8) = sym (set_word-back s k B) ∙ ap (set_word s k) e ∙ set_word-map m in
      ap (λ (t : List ℕ). with_mark t (8 * k) i v) z ∙ map-with_mark s (8 * k) 8 (omega arith) m i v l ∙ sym (set_word-map (upd m i v))

  -- as the code does it: a mark is a bit of the word
  pub bit-mark : (i : ℕ) → i < 64 → word_bit (word s k) i ≡ mark s (8 * k) i
  bit-mark i l = ap (λ (v : ℕ). word_bit v i) word-marks ∙ bits_at (mark s (8 * k)) 64 i l

  pub bit-stored : (i : ℕ) (v : Bool) → i < 64 → set_word s k (with_word_bit (word s k) i v) ≡ with_mark s (8 * k) i v
  unfolding with_word_bit
  bit-stored i v l = sym (with_mark-word (word_bit (word s k)) (word-is (word s k) (word_bit (word s k)) (word_small s k B) (λ j h. refl)) i v l)
