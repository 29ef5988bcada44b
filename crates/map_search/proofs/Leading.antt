-- The leading zeros of a word that is turned over are its set marks before the first clear one.
use mathlib.Core.Path.{◌≡◌, sym, ap, ◌∙◌, subst}
use mathlib.Core.Logic.{⊎_elim}
use mathlib.Core.Bool.{Bool, true, false, not}
use mathlib.Core.List.{List}
use Prim.Native.Nat.{ℕ, suc, ◌+◌, ◌-◌, ◌*◌, ◌/◌, ◌%◌, ◌^◌, ◌≤◌, ◌<◌}
use native.Mathlib.Nat.{pow-suc, div-eq_of_lt, div-eq_of_lt-le}
use native.Mathlib.Omega.{arith}
use lib.Count.{count_leading_zeros, leading_length}
use lib.Dec.{eqb}
use lib.ListN.{length}
use lib.Pow.{pow_mono}
use borrow.Author.Tests.{not-true, not-false}
use Rattle.base.specs.Search.{least}
use Rattle.base.proofs.Search.{least_spec, least-is}
use Rattle.base.proofs.Cases.{lt?}
use Rattle.words.specs.Word.{Bytes, word}
use Rattle.maps.specs.Bitmap.{mark, bits_of}
use Rattle.maps.specs.Mirror.{lowest_clear}
use Rattle.maps.proofs.Bits.{bits_ext, bits_at, bits_not}
use Rattle.maps.proofs.Words.{word-marks}
use Rattle.maps.proofs.Search.{Passed, Stopped, search_start, search_hit, search_miss, search_done}

-- ---- a number of marks

module _ (m : ℕ → Bool) (v : ℕ) (e : v ≡ bits_of m 64) where
  abbrev a : ℕ
  a = (2 ^ 64 - 1) - v

  clear : a ≡ bits_of (λ i. not (m i)) 64
  clear = omega (arith, bits_not m 64)

  -- its bit i, from the top, says that mark i is clear
  clear_at : (i : ℕ) → i < 64 → eqb (a / 2 ^ (63 - i) % 2) 1 ≡ not (m i)
  clear_at i h = ap (λ (x : ℕ). eqb (x / 2 ^ (63 - i) % 2) 1) clear ∙ bits_at (λ i. not (m i)) 64 i h

  pub set_before : (i : ℕ) → i < count_leading_zeros 64 a → i < 64 → m i ≡ true
  set_before i l h =
      let t = leading_length 64 a (omega arith) in
      let low : a / 2 ^ (63 - i) ≡ 0 = div-eq_of_lt (omega (arith, t.2, pow_mono {i = t.0} {j = 63 - i} (omega (arith, t.1)))) in
      not-false _ (sym (clear_at i h) ∙ ap (λ (x : ℕ). eqb (x % 2) 1) low)

  pub clear_there : count_leading_zeros 64 a < 64 → m (count_leading_zeros 64 a) ≡ false
  clear_there l =
      let k = count_leading_zeros 64 a in
      let t = leading_length 64 a (omega arith) in
      let j = 63 - k in
      let z : t.0 ≡ suc j = omega (arith, t.1) in
      let lo : 2 ^ suc j ≤ 2 * a + 1 = subst (λ (x : ℕ). 2 ^ x ≤ 2 * a + 1) z t.3 in
      let hi : a < 2 ^ suc j = subst (λ (x : ℕ). a < 2 ^ x) z t.2 in
      let top : a / 2 ^ j ≡ 1 = div-eq_of_lt-le (2 ^ j) (omega (arith, pow-suc 2 j)) (omega (arith, pow-suc 2 j)) in
      not-true _ (sym (clear_at k l) ∙ ap (λ (x : ℕ). eqb (x % 2) 1) top)

-- ---- word j of the map that begins with word k, as the code reads it

pub zeros_most : (v : ℕ) → count_leading_zeros 64 ((2 ^ 64 - 1) - v) ≤ 64
zeros_most v = let t = leading_length 64 ((2 ^ 64 - 1) - v) (omega arith) in omega (arith, t.1)

module _ (s : List ℕ) (B : Bytes s) (k j v : ℕ) (inside : k + j < length s / 8) (read : v ≡ word s (k + j)) where
  abbrev zeros : ℕ
  zeros = count_leading_zeros 64 ((2 ^ 64 - 1) - v)

  marks : v ≡ bits_of (λ i. mark s (8 * k) (64 * j + i)) 64
  marks = read ∙ word-marks s B (k + j) inside ∙ bits_ext _ _ 64 (λ i h. later i)
    where
      later : (i : ℕ) → mark s (8 * (k + j)) i ≡ mark s (8 * k) (64 * j + i)
      later i =
          unfold mark in
          let d : 8 * k + (64 * j + i) / 8 ≡ 8 * (k + j) + i / 8 = omega arith in
          let r : (64 * j + i) % 8 ≡ i % 8 = omega arith in
          rw (d, r)

  so_far : Passed s (8 * k) (64 * j) → (i : ℕ) → i < 64 * j + zeros → i < 64 * (j + 1) → mark s (8 * k) i ≡ true
  unfolding Passed
  so_far p i l h =
      ⊎_elim
      (λ a. p i a)
      (λ g.
      let z : i ≡ 64 * j + (i - 64 * j) = omega arith in
      ap (mark s (8 * k)) z ∙ set_before (λ b. mark s (8 * k) (64 * j + b)) v marks (i - 64 * j) (omega arith) (omega arith))
      (lt? i (64 * j))

  pub word_set : Passed s (8 * k) (64 * j) → 64 ≤ zeros → Passed s (8 * k) (64 * (j + 1))
  unfolding Passed
  word_set p h i l = so_far p i (omega arith) l

  pub word_clear : (m : ℕ) → j < m → Passed s (8 * k) (64 * j) → zeros < 64 → 64 * j + zeros ≡ lowest_clear s (8 * k) (64 * m)
  word_clear m g p h = search_hit s (8 * k) (64 * m) _ stopped (omega arith)
    where
      stopped : Stopped s (8 * k) (64 * m) (64 * j + zeros)
      stopped = record {
        passed = λ i l _. so_far p i l (omega arith);
        clear = λ _. clear_there (λ b. mark s (8 * k) (64 * j + b)) v marks h;
      }

-- after the last word
pub words-set : (s : List ℕ) (k m j : ℕ) → Passed s (8 * k) (64 * j) → m ≤ j → 64 * m ≡ lowest_clear s (8 * k) (64 * m)
words-set s k m j p h =
    let e : 64 * j ≡ 8 * (8 * j) = omega arith in
    search_miss s (8 * k) (64 * m) (64 * m) (search_done s (8 * k) (64 * m) (8 * j) (omega arith) (subst (Passed s (8 * k)) e p)) (omega arith)

-- a map of one word
pub one_word : (s : List ℕ) (B : Bytes s) (k v : ℕ) → k < length s / 8 → v ≡ word s k → count_leading_zeros 64 ((2 ^ 64 - 1) - v) ≡ lowest_clear s (8 * k) 64
one_word s B k v inside read =
    ⊎_elim
    (λ h.
    let e : count_leading_zeros 64 ((2 ^ 64 - 1) - v) ≡ 64 * 0 + count_leading_zeros 64 ((2 ^ 64 - 1) - v) = omega arith in
    e ∙ word_clear s B k 0 v (omega arith) here 1 (omega arith) (search_start s (8 * k)) h)
    (λ h.
    let e : count_leading_zeros 64 ((2 ^ 64 - 1) - v) ≡ 64 = omega (arith, zeros_most v) in
    e ∙ words-set s k 1 1 (word_set s B k 0 v (omega arith) here (search_start s (8 * k)) h) (omega arith))
    (lt? (count_leading_zeros 64 ((2 ^ 64 - 1) - v)) 64)
  where
    here : v ≡ word s (k + 0)
    here = let z : k + 0 ≡ k = omega arith in read ∙ ap (word s) (sym z)

-- a free chunk in the first word is that of the whole map
pub first_word : (s : List ℕ) (base i m : ℕ) → i ≡ lowest_clear s base 64 → i < 64 → 1 ≤ m → i ≡ lowest_clear s base (64 * m)
unfolding lowest_clear
first_word s base i m e h g =
    let q : ℕ → Bool = λ j. not (mark s base j) in
    let L = least_spec q 64 in
    e ∙ sym (least-is q (64 * m) (least q 64) (record {
      at_most = omega (arith, L.at_most);
      before = λ j l. L.before j l;
      passes = λ _. L.passes (omega arith);
    }))
