-- The code's masks test, set and clear the bits that they should, of a byte and of a word.
use mathlib.Core.Path.{◌≡◌, refl, sym, ap, ◌∙◌}
use mathlib.Core.Logic.{◌⊎◌, inl, inr, ◌≢◌}
use mathlib.Core.Bool.{Bool, true, false, cond, not}
use Prim.Native.Nat.{ℕ, zero, suc, min, max, ◌+◌, ◌-◌, ◌*◌, ◌/◌, ◌%◌, ◌^◌, ◌<◌}
use native.Mathlib.Nat.{div-eq_of_lt}
use native.Mathlib.Omega.{arith}
use lib.Bits.{bit_and, bit_or, and_step, or_step, and_shr, or_shr, and_lt, or_lt}
use lib.Dec.{eqb}
use lib.Pow.{pow_pos, shr_le}
use borrow.Author.Tests.{eqb-true, eq-eqb, ne_eqb, not-false}
use Rattle.base.specs.Count.{bit}
use Rattle.base.specs.Functions.{upd}
use Rattle.base.specs.Search.{least, any}
use Rattle.base.proofs.Cases.{clash, eq?}
use Rattle.base.proofs.Search.{any_false}
use Rattle.maps.specs.Bitmap.{bit_of, bits_of, with_bit}
use Rattle.maps.specs.Mirror.{word_bit, with_word_bit}
use Rattle.maps.proofs.Bits.{bits_at, bits_ext, bits_not, digit, byte_is, word-is}

-- a test that holds of each of the 64 pairs of bits
pairs : (t : ℕ → ℕ → Bool) → any (λ x. not (t (x / 8) (x % 8))) 64 ≡ false → (i j : ℕ) → i < 8 → j < 8 → t i j ≡ true
pairs t e i j h k =
    let d : (8 * i + j) / 8 ≡ i = omega arith in
    let r : (8 * i + j) % 8 ≡ j = omega arith in
    not-false (t i j) (rw (d, r) at (any_false (λ x. not (t (x / 8) (x % 8))) 64 e (8 * i + j) (omega arith)))

-- bit j of the mask of bit i, and of its complement
mask : (i j : ℕ) → i < 8 → j < 8 → 128 / 2 ^ i / 2 ^ (7 - j) % 2 ≡ bit (eqb j i)
unfolding any least
mask i j h k = eqb-true _ _ (pairs (λ i j. eqb (128 / 2 ^ i / 2 ^ (7 - j) % 2) (bit (eqb j i))) refl i j h k)

hole : (i j : ℕ) → i < 8 → j < 8 → (255 - 128 / 2 ^ i) / 2 ^ (7 - j) % 2 ≡ bit (not (eqb j i))
unfolding any least
hole i j h k = eqb-true _ _ (pairs (λ i j. eqb ((255 - 128 / 2 ^ i) / 2 ^ (7 - j) % 2) (bit (not (eqb j i)))) refl i j h k)

or_odd : (a b : ℕ) → bit_or a b % 2 ≡ max (a % 2) (b % 2) % 2
or_odd a b = rw (or_step a b) (omega arith)

and_odd : (a b : ℕ) → bit_and a b % 2 ≡ min (a % 2) (b % 2) % 2
and_odd a b = rw (and_step a b) (omega arith)

or_one : (x : ℕ) (t : Bool) → x < 2 → eqb (max x (bit t) % 2) 1 ≡ cond t true (eqb x 1)
or_one zero true h = refl
or_one zero false h = refl
or_one (suc zero) true h = refl
or_one (suc zero) false h = refl
or_one (suc (suc x)) t h = absurd (omega arith)

and_one : (x : ℕ) (t : Bool) → x < 2 → eqb (min x (bit (not t)) % 2) 1 ≡ cond t false (eqb x 1)
and_one zero true h = refl
and_one zero false h = refl
and_one (suc zero) true h = refl
and_one (suc zero) false h = refl
and_one (suc (suc x)) t h = absurd (omega arith)

pub or_mask : (b i : ℕ) → b < 256 → i < 8 → bit_or b (128 / 2 ^ i) ≡ with_bit b i true
unfolding with_bit upd
or_mask b i h k =
    byte_is (bit_or b (128 / 2 ^ i)) (upd (bit_of b) i true) (or_lt 8 b (128 / 2 ^ i) h (omega (arith, shr_le 128 i)))
    (λ j l.
    rw (or_shr b (128 / 2 ^ i) (7 - j), or_odd (b / 2 ^ (7 - j)) (128 / 2 ^ i / 2 ^ (7 - j)), mask i j k l)
    (or_one (b / 2 ^ (7 - j) % 2) (eqb j i) (omega arith)))

pub and_mask : (b i : ℕ) → b < 256 → i < 8 → bit_and b (255 - 128 / 2 ^ i) ≡ with_bit b i false
unfolding with_bit upd
and_mask b i h k =
    byte_is (bit_and b (255 - 128 / 2 ^ i)) (upd (bit_of b) i false) (and_lt 8 b (255 - 128 / 2 ^ i) h (omega arith))
    (λ j l.
    rw (and_shr b (255 - 128 / 2 ^ i) (7 - j), and_odd (b / 2 ^ (7 - j)) ((255 - 128 / 2 ^ i) / 2 ^ (7 - j)), hole i j k l)
    (and_one (b / 2 ^ (7 - j) % 2) (eqb j i) (omega arith)))

-- ---- a word

-- the mark of bit i is a word with this bit alone
one_bit : (i : ℕ) → i < 64 → 9223372036854775808 / 2 ^ i ≡ bits_of (λ j. eqb j i) 64
unfolding any least bits_of
one_bit i h = eqb-true _ _ (not-false _ (any_false (λ i. not (eqb (9223372036854775808 / 2 ^ i) (bits_of (λ j. eqb j i) 64))) 64 refl i h))

word_bit-at : (v : ℕ) (m : ℕ → Bool) (j : ℕ) → v ≡ bits_of m 64 → j < 64 → v / 2 ^ (63 - j) % 2 ≡ bit (m j)
word_bit-at v m j e l = sym (digit (v / 2 ^ (63 - j) % 2) (omega arith)) ∙ ap bit (ap (λ (x : ℕ). word_bit x j) e ∙ bits_at m 64 j l)

word_mask : (i j : ℕ) → i < 64 → j < 64 → 9223372036854775808 / 2 ^ i / 2 ^ (63 - j) % 2 ≡ bit (eqb j i)
word_mask i j h l = word_bit-at _ (λ j. eqb j i) j (one_bit i h) l

word_hole : (i j : ℕ) → i < 64 → j < 64 → (18446744073709551615 - 9223372036854775808 / 2 ^ i) / 2 ^ (63 - j) % 2 ≡ bit (not (eqb j i))
word_hole i j h l = word_bit-at _ (λ j. not (eqb j i)) j (omega (arith, one_bit i h, bits_not (λ j. eqb j i) 64)) l

module _ (v i : ℕ) (small : v < 18446744073709551616) (k : i < 64) where
  abbrev one : ℕ
  one = 9223372036854775808 / 2 ^ i

  pub or_word : bit_or v one ≡ with_word_bit v i true
  unfolding with_word_bit upd
  or_word =
      word-is (bit_or v one) (upd (word_bit v) i true) (or_lt 64 v one small (omega (arith, shr_le 9223372036854775808 i)))
      (λ j l.
      rw (or_shr v one (63 - j), or_odd (v / 2 ^ (63 - j)) (one / 2 ^ (63 - j)), word_mask i j k l)
      (or_one (v / 2 ^ (63 - j) % 2) (eqb j i) (omega arith)))

  pub and_word : bit_and v (18446744073709551615 - one) ≡ with_word_bit v i false
  unfolding with_word_bit upd
  and_word =
      word-is (bit_and v (18446744073709551615 - one)) (upd (word_bit v) i false) (and_lt 64 v (18446744073709551615 - one) small (omega arith))
      (λ j l.
      rw (and_shr v (18446744073709551615 - one) (63 - j), and_odd (v / 2 ^ (63 - j)) ((18446744073709551615 - one) / 2 ^ (63 - j)), word_hole i j k l)
      (and_one (v / 2 ^ (63 - j) % 2) (eqb j i) (omega arith)))

  -- what a test of the bit finds
  found : bit_and v one ≡ bits_of (λ j. cond (eqb j i) (word_bit v i) false) 64
  found =
      word-is (bit_and v one) _ (and_lt 64 v one small (omega (arith, shr_le 9223372036854775808 i)))
      (λ j l.
      rw (and_shr v one (63 - j), and_odd (v / 2 ^ (63 - j)) (one / 2 ^ (63 - j)), word_mask i j k l)
      (both (v / 2 ^ (63 - j) % 2) (eqb j i) (omega arith) ∙ here j (eq? j i)))
    where
      both : (x : ℕ) (t : Bool) → x < 2 → eqb (min x (bit t) % 2) 1 ≡ cond t (eqb x 1) false
      both zero true h = refl
      both zero false h = refl
      both (suc zero) true h = refl
      both (suc zero) false h = refl
      both (suc (suc x)) t h = absurd (omega arith)

      here : (j : ℕ) → (j ≡ i) ⊎ (j ≢ i) → cond (eqb j i) (word_bit v j) false ≡ cond (eqb j i) (word_bit v i) false
      here j (inl e) = rw e
      here j (inr d) = rw (ne_eqb j i d)

  pub test_word : not (eqb (bit_and v one) 0) ≡ word_bit v i
  test_word = go (word_bit v i) refl
    where
      none : bits_of (λ j. cond (eqb j i) false false) 64 ≡ 0
      none = bits_ext _ (λ j. false) 64 (λ j l. same (eqb j i)) ∙ (unfold bits_of in refl)
        where
          same : (t : Bool) → cond t false false ≡ false
          same true = refl
          same false = refl

      some : bits_of (λ j. cond (eqb j i) true false) 64 ≡ 0 → true ≡ false
      some z =
          sym (ap (λ (t : Bool). cond t true false) (eq-eqb i i refl)) ∙ sym (bits_at (λ j. cond (eqb j i) true false) 64 i k)
          ∙ ap (λ (x : ℕ). word_bit x i) z ∙ zero_bit
        where
          zero_bit : word_bit 0 i ≡ false
          zero_bit = let z : 0 / 2 ^ (63 - i) ≡ 0 = div-eq_of_lt (omega (arith, pow_pos (63 - i))) in rw z

      go : (b : Bool) → word_bit v i ≡ b → not (eqb (bit_and v one) 0) ≡ b
      go false e = rw (found, e, none)
      go true e = rw (found, e) (ap not (ne_eqb _ 0 (λ z. clash refl (some z))))
