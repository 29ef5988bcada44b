-- The ones of a word are the set marks of its map, and maps are counted piece by piece.
use mathlib.Core.Path.{◌≡◌, refl, sym, ap, ◌∙◌}
use mathlib.Core.Logic.{◌≢◌}
use mathlib.Core.Bool.{Bool, true, false}
use mathlib.Core.List.{List}
use Prim.Native.Nat.{ℕ, zero, suc, ◌+◌, ◌*◌, ◌/◌, ◌%◌, ◌≤◌, ◌<◌}
use native.Mathlib.Omega.{arith}
use lib.Count as Count
use lib.ListN.{length}
use borrow.Author.Tests.{le-ltb}
use Rattle.base.specs.Tests.{pick}
use Rattle.base.specs.Count.{bit, sum, count}
use Rattle.base.proofs.Count.{sum_ext}
use Rattle.words.specs.Word.{Bytes, word}
use Rattle.maps.specs.Bitmap.{mark, bits_of}
use Rattle.maps.proofs.Words.{word-marks}
use Rattle.model.specs.Classes.{chunks}
use Rattle.map_count.specs.Mirror.{map_bits}

-- the ones of the number of k marks
pub ones_bits : (m : ℕ → Bool) (k : ℕ) → Count.ones (bits_of m k) ≡ count m k
unfolding bits_of count sum Count.ones Count.ones_in
ones_bits m zero = refl
ones_bits m (suc k) = Count.ones_step (2 * bits_of m k + bit (m k)) ∙ go (m k) (ones_bits m k)
  where
    go : (b : Bool) → Count.ones (bits_of m k) ≡ count m k → (2 * bits_of m k + bit b) % 2 + Count.ones ((2 * bits_of m k + bit b) / 2) ≡ count m k + bit b
    go true e =
        let d : (2 * bits_of m k + 1) / 2 ≡ bits_of m k = omega arith in
        let r : (2 * bits_of m k + 1) % 2 ≡ 1 = omega arith in
        rw (d, r, e) (omega arith)
    go false e =
        let d : (2 * bits_of m k + 0) / 2 ≡ bits_of m k = omega arith in
        let r : (2 * bits_of m k + 0) % 2 ≡ 0 = omega arith in
        rw (d, r, e) (omega arith)

-- a marks, and d more after them
pub count-join : (m : ℕ → Bool) (a d : ℕ) → count m (a + d) ≡ count m a + count (λ i. m (a + i)) d
unfolding count sum
count-join m a zero = let z : a + 0 ≡ a = omega arith in rw z (omega arith)
count-join m a (suc d) =
    let z : a + suc d ≡ suc (a + d) = omega arith in
    let ih = count-join m a d in
    rw (z, ih) (omega arith)

pub count_le : (m : ℕ → Bool) (n : ℕ) → count m n ≤ n
unfolding count sum
count_le m zero = omega arith
count_le m (suc n) = go (m n) (count_le m n)
  where
    go : (b : Bool) → count m n ≤ n → count m n + bit b ≤ suc n
    go true h = omega arith
    go false h = omega arith

pub word_ones : (s : List ℕ) (k : ℕ) → Bytes s → k < length s / 8 → Count.ones (word s k) ≡ count (mark s (8 * k)) 64
word_ones s k B h = rw (word-marks s B k h) (ones_bits (mark s (8 * k)) 64)

-- a map of 64 a marks, and d marks in the words after it
pub marks-join : (s : List ℕ) (k a d : ℕ) → count (mark s (8 * k)) (64 * a + d) ≡ count (mark s (8 * k)) (64 * a) + count (mark s (8 * (k + a))) d
unfolding count
marks-join s k a d =
    count-join (mark s (8 * k)) (64 * a) d
    ∙ ap (λ (x : ℕ). count (mark s (8 * k)) (64 * a) + x) (sum_ext _ _ d (λ i l. ap bit (later i)))
  where
    later : (i : ℕ) → mark s (8 * k) (64 * a + i) ≡ mark s (8 * (k + a)) i
    later i =
        unfold mark in
        let e : 8 * k + (64 * a + i) / 8 ≡ 8 * (k + a) + i / 8 = omega arith in
        let r : (64 * a + i) % 8 ≡ i % 8 = omega arith in
        rw (e, r)

-- ---- what the code reads

pub read_ones : (s : List ℕ) (k v : ℕ) → Bytes s → k < length s / 8 → v ≡ word s k → (Count.ones v ≡ count (mark s (8 * k)) 64) × (Count.ones v ≤ 64)
read_ones s k v B h e = let z : Count.ones v ≡ count (mark s (8 * k)) 64 = rw e (word_ones s k B h) in (z, rw z (count_le _ 64))

pub read_more : (s : List ℕ) (k j v n : ℕ) → Bytes s → k + j < length s / 8 → v ≡ word s (k + j) → n ≡ count (mark s (8 * k)) (64 * j)
    → (n + Count.ones v ≡ count (mark s (8 * k)) (64 * (j + 1))) × (n + Count.ones v ≤ 64 * (j + 1))
read_more s k j v n B h e d =
    let a : 64 * (j + 1) ≡ 64 * j + 64 = omega arith in
    let z : n + Count.ones v ≡ count (mark s (8 * k)) (64 * (j + 1)) = rw (e, word_ones s (k + j) B h, d, a) (sym (marks-join s k j 64)) in
    (z, rw z (count_le _ (64 * (j + 1))))

module _ (m : ℕ → Bool) (c r : ℕ) where
  of_bits : (n : ℕ) → map_bits c ≡ n → n ≤ 512 → (r ≡ count m n) × (r ≤ n) → (r ≡ count m (map_bits c)) × (r ≤ 512)
  of_bits n e h d = (rw e d.0, omega (arith, d.1))

  pub of_8 : c ≡ 0 → (r ≡ count m 512) × (r ≤ 512) → (r ≡ count m (map_bits c)) × (r ≤ 512)
  unfolding map_bits pick chunks
  of_8 e = of_bits 512 (rw e) (omega arith)

  pub of_16 : c ≡ 1 → (r ≡ count m 256) × (r ≤ 256) → (r ≡ count m (map_bits c)) × (r ≤ 512)
  unfolding map_bits pick chunks
  of_16 e = of_bits 256 (rw e) (omega arith)

  pub of_32 : c ≤ 2 → c ≢ 0 → c ≢ 1 → (r ≡ count m 128) × (r ≤ 128) → (r ≡ count m (map_bits c)) × (r ≤ 512)
  unfolding map_bits pick chunks
  of_32 l a b = let e : c ≡ 2 = omega arith in of_bits 128 (rw e) (omega arith)

  pub of_64 : 2 < c → (r ≡ count m 64) × (r ≤ 64) → (r ≡ count m (map_bits c)) × (r ≤ 512)
  unfolding map_bits pick
  of_64 h = of_bits 64 (rw (le-ltb c 3 h)) (omega arith)
