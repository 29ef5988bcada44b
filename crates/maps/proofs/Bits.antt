-- A number put together from marks, from the top down; a byte's eight bits and a word's 64.
use mathlib.Core.Path.{◌≡◌, refl, sym, ap, ◌∙◌}
use mathlib.Core.Logic.{◌⊎◌, inl, inr, ◌≢◌}
use mathlib.Core.Bool.{Bool, true, false, not}
use Prim.Native.Nat.{ℕ, zero, suc, ◌+◌, ◌-◌, ◌*◌, ◌/◌, ◌%◌, ◌^◌, ◌≤◌, ◌<◌}
use native.Mathlib.Omega.{arith}
use native.Mathlib.Nat.{div-eq_of_lt, div-div-eq-div-mul, pow-suc, mul_assoc}
use lib.Dec.{eqb}
use lib.Pow.{high}
use borrow.Author.Tests.{eq-eqb, ne_eqb}
use Rattle.base.specs.Count.{bit}
use Rattle.base.specs.Functions.{upd}
use Rattle.base.proofs.Cases.{eq?}
use Rattle.base.proofs.Functions.{upd_same, upd_other}
use Rattle.maps.specs.Bitmap.{bit_of, bits_of, with_bit}
use Rattle.maps.specs.Mirror.{word_bit}

-- ---- numbers

pub bits_ext : (m m' : ℕ → Bool) (k : ℕ) → ((i : ℕ) → i < k → m i ≡ m' i) → bits_of m k ≡ bits_of m' k
unfolding bits_of
bits_ext m m' zero e = refl
bits_ext m m' (suc k) e = rw (e k (omega arith), bits_ext m m' k (λ i h. e i (omega arith)))

pub bits_small : (m : ℕ → Bool) (k : ℕ) → bits_of m k < 2 ^ k
unfolding bits_of
bits_small m zero = omega arith
bits_small m (suc k) = rw (pow-suc 2 k) (go (m k) (bits_small m k))
  where
    go : (b : Bool) → bits_of m k < 2 ^ k → 2 * bits_of m k + bit b < 2 ^ k * 2
    go true h = omega arith
    go false h = omega arith

-- a marks, and d more after them
pub bits_join : (m : ℕ → Bool) (a d : ℕ) → bits_of m (a + d) ≡ bits_of m a * 2 ^ d + bits_of (λ i. m (a + i)) d
unfolding bits_of
bits_join m a zero = let z : a + 0 ≡ a = omega arith in rw z (omega arith)
bits_join m a (suc d) =
    let z : a + suc d ≡ suc (a + d) = omega arith in
    let ih = bits_join m a d in
    rw (z, ih, pow-suc 2 d, ← mul_assoc (bits_of m a) (2 ^ d) 2) (omega arith)

-- bit i, from the top, of the number of T marks is mark i
pub bits_at : (m : ℕ → Bool) (T i : ℕ) → i < T → eqb (bits_of m T / 2 ^ (T - 1 - i) % 2) 1 ≡ m i
unfolding bits_of
bits_at m T i h =
    let d : ℕ = T - 1 - i in
    let z : suc i + d ≡ T = omega arith in
    let y : bits_of m T / 2 ^ d ≡ bits_of m (suc i) =
    ap (λ (x : ℕ). bits_of m x / 2 ^ d) (sym z) ∙ rw (bits_join m (suc i) d) (high (bits_of m (suc i)) d (bits_small (λ k. m (suc i + k)) d)) in
    ap (λ (x : ℕ). eqb (x % 2) 1) y ∙ last (bits_of m i) (m i)
  where
    last : (x : ℕ) (b : Bool) → eqb ((2 * x + bit b) % 2) 1 ≡ b
    last x true = eq-eqb ((2 * x + 1) % 2) 1 (omega arith)
    last x false = ne_eqb ((2 * x + 0) % 2) 1 (λ e. omega arith)

pub bits_injective : (m m' : ℕ → Bool) (k : ℕ) → bits_of m k ≡ bits_of m' k → (i : ℕ) → i < k → m i ≡ m' i
bits_injective m m' k e i h = sym (bits_at m k i h) ∙ ap (λ (w : ℕ). eqb (w / 2 ^ (k - 1 - i) % 2) 1) e ∙ bits_at m' k i h

pub digit : (y : ℕ) → y < 2 → bit (eqb y 1) ≡ y
digit zero h = refl
digit (suc zero) h = refl
digit (suc (suc y)) h = absurd (omega arith)

-- the first k bits of a number of T bits
bits_of_lem : (T w k : ℕ) → w < 2 ^ T → k ≤ T → bits_of (λ i. eqb (w / 2 ^ (T - 1 - i) % 2) 1) k ≡ w / 2 ^ (T - k)
unfolding bits_of
bits_of_lem T w zero small h = let z : T - 0 ≡ T = omega arith in rw z (sym (div-eq_of_lt small))
bits_of_lem T w (suc k) small h =
    let x = w / 2 ^ (T - 1 - k) in
    let e : T - k ≡ suc (T - 1 - k) = omega arith in
    let f : T - suc k ≡ T - 1 - k = omega arith in
    let g : w / 2 ^ (T - k) ≡ x / 2 = rw (e, pow-suc) (sym (div-div-eq-div-mul w (2 ^ (T - 1 - k)) 2)) in
    let ih = bits_of_lem T w k small (omega arith) in
    rw (ih, f, g, digit (x % 2) (omega arith)) (omega arith)

-- turned over, it has the other marks
pub bits_not : (m : ℕ → Bool) (k : ℕ) → bits_of m k + bits_of (λ i. not (m i)) k + 1 ≡ 2 ^ k
unfolding bits_of
bits_not m zero = refl
bits_not m (suc k) = rw (pow-suc 2 k) (go (m k) (bits_not m k))
  where
    go : (b : Bool) → bits_of m k + bits_of (λ i. not (m i)) k + 1 ≡ 2 ^ k → 2 * bits_of m k + bit b + (2 * bits_of (λ i. not (m i)) k + bit (not b)) + 1 ≡ 2 ^ k * 2
    go true h = omega arith
    go false h = omega arith

-- ---- bytes

pub bit_byte : (m : ℕ → Bool) (j : ℕ) → j < 8 → bit_of (bits_of m 8) j ≡ m j
bit_byte m j h = bits_at m 8 j h

pub byte_small : (m : ℕ → Bool) → bits_of m 8 < 256
byte_small m = bits_small m 8

-- a byte is put together from its bits
pub byte_is : (b : ℕ) (m : ℕ → Bool) → b < 256 → ((j : ℕ) → j < 8 → bit_of b j ≡ m j) → b ≡ bits_of m 8
byte_is b m h e =
    let z : b / 2 ^ 0 ≡ b = omega arith in
    sym z ∙ sym (bits_of_lem 8 b 8 h (omega arith)) ∙ bits_ext (bit_of b) m 8 e

-- a word is
pub word-is : (v : ℕ) (m : ℕ → Bool) → v < 18446744073709551616 → ((j : ℕ) → j < 64 → word_bit v j ≡ m j) → v ≡ bits_of m 64
word-is v m h e =
    let z : v / 2 ^ 0 ≡ v = omega arith in
    sym z ∙ sym (bits_of_lem 64 v 64 h (omega arith)) ∙ bits_ext (word_bit v) m 64 e

-- ---- a byte with one bit set or clear

pub with_bit-small : (b j : ℕ) (v : Bool) → with_bit b j v < 256
unfolding with_bit
with_bit-small b j v = byte_small (upd (bit_of b) j v)

pub with_bit_same : (b j : ℕ) (v : Bool) → j < 8 → bit_of (with_bit b j v) j ≡ v
unfolding with_bit
with_bit_same b j v h = bit_byte (upd (bit_of b) j v) j h ∙ upd_same (bit_of b) j v

pub with_bit_other : (b j k : ℕ) (v : Bool) → k < 8 → k ≢ j → bit_of (with_bit b j v) k ≡ bit_of b k
unfolding with_bit
with_bit_other b j k v h d = bit_byte (upd (bit_of b) j v) k h ∙ upd_other (bit_of b) j v k d

-- the byte whose bits are b's but for bit j, which is v
pub with_bit-is : (x b j : ℕ) (v : Bool) → x < 256 → bit_of x j ≡ v → ((k : ℕ) → k < 8 → k ≢ j → bit_of x k ≡ bit_of b k) → x ≡ with_bit b j v
unfolding with_bit
with_bit-is x b j v h e o = byte_is x (upd (bit_of b) j v) h (λ k l. go k l (eq? k j))
  where
    go : (k : ℕ) → k < 8 → (k ≡ j) ⊎ (k ≢ j) → bit_of x k ≡ upd (bit_of b) j v k
    go k l (inl p) = rw (p, upd_same (bit_of b) j v) e
    go k l (inr p) = rw (upd_other (bit_of b) j v k p) (o k l p)

pub with_bit_id : (b j : ℕ) (v : Bool) → b < 256 → bit_of b j ≡ v → with_bit b j v ≡ b
with_bit_id b j v h e = sym (with_bit-is b b j v h e (λ k l d. refl))

pub with_bit_twice : (b j : ℕ) (u v : Bool) → j < 8 → with_bit (with_bit b j u) j v ≡ with_bit b j v
with_bit_twice b j u v h =
    with_bit-is (with_bit (with_bit b j u) j v) b j v (with_bit-small (with_bit b j u) j v) (with_bit_same (with_bit b j u) j v h)
    (λ k l d. with_bit_other (with_bit b j u) j k v l d ∙ with_bit_other b j k u l d)
