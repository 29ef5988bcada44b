-- Where halving and adding lose nothing: fractions over a power of two whose numerators have at most 53 digits.
--     half_exact     half of S / 2 ^ k is S / 2 ^ (k + 1)
--     add_exact      a / 2 ^ k + b / 2 ^ k is (a + b) / 2 ^ k
--     count_half     half of a count
--     halves-exact   a sample of n takes S / 2 ^ k to (S + n · 2 ^ k) / 2 ^ (k + 1)
-- A load of -0 counts as 0 (`zero-halves`).
use Prim.Native.Nat.{ℕ, suc, ◌+◌, ◌-◌, ◌*◌, ◌^◌, ◌≤◌, ◌<◌}
use mathlib.Core.Path.{◌≡◌, refl, sym, ap, ◌∙◌}
use mathlib.Core.Logic.{◌⊎◌, inl, inr}
use mathlib.Core.Bool.{Bool, true, false, true≢false, cond, ◌&&◌}
use native.Mathlib.Omega.{arith}
use native.Mathlib.Nat.{mul_assoc, mul_comm, mul_left_comm, mul_right_comm, mul-one, zero-mul, add-mul, mul-pos, pow-suc, eq_of_mul-eq-mul_right, mul-le-mul_right, lt_of_lt_of_le}
use lib.Pow.{pow-add, pow_mono, shl_lt}
use lib.Dec.{ltb}
use lib.IntN.{ℤ, pos}
use lib.Ieee as Ieee
use lib.Ieee.{Float, nan, inf, fin, binary64, up, down, round}
use lib.Ieee.Fits.{down_pos}
use lib.Ieee.Scale.{round_same}
use lib.Ieee.Exact.{HasValue, round_exact}
use borrow.Author.Tests.{ltb-false}
use Rattle.gauge.specs.Gauge.{f0, f2, halves}
use Rattle.gauge.specs.Claim.{Is}

-- from one fraction to another of the same size
rescale : (x : Float) (w l num den : ℕ) → 0 < l → num * l ≡ w * den → HasValue x false w l → HasValue x false num den
rescale nan w l num den p h v = v
rescale (inf t) w l num den p h v = v
rescale (fin t m e) w l num den p h v = (
  v.0,
  eq_of_mul-eq-mul_right l p (m * up e * den) (num * down e)
      (mul_right_comm (m * up e) den l
      ∙ ap (λ (x : ℕ). x * den) v.1
      ∙ mul_right_comm w (down e) den
      ∙ ap (λ (x : ℕ). x * down e) (sym h)
      ∙ mul_right_comm num l (down e)),
)

-- 2 ^ 1074, the inverse of the format's smallest value, is 2 ^ k times the rest
low-split : (k : ℕ) → k ≤ 1074 → 2 ^ 1074 ≡ 2 ^ k * 2 ^ (1074 - k)
low-split k h =
    let e : 1074 ≡ k + (1074 - k) = omega arith in
    ap (λ (n : ℕ). 2 ^ n) e ∙ pow-add 2 k (1074 - k)

-- a quotient a / 2 ^ k with a of at most 53 digits is kept whole
kept : (num den a k : ℕ) → 0 < den → k ≤ 1074 → a < 2 ^ 53 → num * 2 ^ k ≡ a * den → HasValue (round binary64 false num den) false a (2 ^ k)
kept num den a k dp hk ha e =
    let j = 1074 - k in
    let fine : a * 2 ^ j < 2 ^ (1074 + 1024) = lt_of_lt_of_le (shl_lt 53 j ha) (pow_mono {i = 53 + j} {j = 1074 + 1024} (omega arith)) in
    let eq : num * 2 ^ 1074 ≡ a * 2 ^ j * den =
    ap (λ (x : ℕ). num * x) (low-split k hk) ∙ sym (mul_assoc num (2 ^ k) (2 ^ j)) ∙ ap (λ (x : ℕ). x * 2 ^ j) e ∙ mul_right_comm a den (2 ^ j) in
    rescale (round binary64 false num den) num den a (2 ^ k) dp (sym e) (round_exact binary64 false num den a j dp ha fine eq)

half_exact : (x : Float) (S k : ℕ) → HasValue x false S (2 ^ k) → S < 2 ^ 53 → suc k ≤ 1074 → HasValue (Ieee.div binary64 x f2) false S (2 ^ suc k)
unfolding Ieee.div
half_exact nan S k v hs hk = absurd v
half_exact (inf t) S k v hs hk = absurd v
half_exact (fin true m e) S k v hs hk = absurd (true≢false v.0)
half_exact (fin false m e) S k v hs hk =
    let eq : m * up e * 1 * 2 ^ suc k ≡ S * (2 * down e) =
    simp (pow-suc, mul-one) (sym (mul_assoc (m * up e) (2 ^ k) 2) ∙ ap (λ (x : ℕ). x * 2) v.1 ∙ simp (mul_assoc, mul_comm, mul_left_comm)) in
    kept (m * up e * 1) (2 * down e) S (suc k) (omega (arith, down_pos e)) hk hs eq

add_exact : (x y : Float) (a b k : ℕ) → HasValue x false a (2 ^ k) → HasValue y false b (2 ^ k) → a + b < 2 ^ 53 → k ≤ 1074
    → HasValue (Ieee.add binary64 x y) false (a + b) (2 ^ k)
unfolding Ieee.add Ieee.sum
add_exact nan y a b k v w hs hk = absurd v
add_exact (inf t) y a b k v w hs hk = absurd v
add_exact (fin true m e) y a b k v w hs hk = absurd (true≢false v.0)
add_exact (fin false m e) nan a b k v w hs hk = absurd w
add_exact (fin false m e) (inf t) a b k v w hs hk = absurd w
add_exact (fin false m e) (fin true n d) a b k v w hs hk = absurd (true≢false w.0)
add_exact (fin false m e) (fin false n d) a b k v w hs hk =
    let l : m * up e * down d * 2 ^ k ≡ a * (down e * down d) =
    mul_right_comm (m * up e) (down d) (2 ^ k) ∙ ap (λ (x : ℕ). x * down d) v.1 ∙ mul_assoc a (down e) (down d) in
    let r : n * up d * down e * 2 ^ k ≡ b * (down e * down d) =
    mul_right_comm (n * up d) (down e) (2 ^ k) ∙ ap (λ (x : ℕ). x * down e) w.1 ∙ simp (mul_assoc, mul_comm) in
    let eq : (m * up e * down d + n * up d * down e) * 2 ^ k ≡ (a + b) * (down e * down d) = rw (add-mul (m * up e * down d) (n * up d * down e) (2 ^ k), add-mul a b, l, r) in
    kept (m * up e * down d + n * up d * down e) (down e * down d) (a + b) k (mul-pos (down_pos e) (down_pos d)) hk hs eq

-- a count is kept whole, and so is half of it
pub count_half : (n : ℕ) → n ≤ 4096 → HasValue (Ieee.div binary64 (Ieee.of_int binary64 (pos n)) f2) false n 2
unfolding Ieee.of_int
count_half n h = half_exact (round binary64 false n 1) n 0 (kept n 1 n 0 (omega arith) (omega arith) (omega arith) refl) (omega arith) (omega arith)

positive_exact : (x : Float) (S k n : ℕ) → HasValue x false S (2 ^ k) → k < 40 → n ≤ 4096 → S ≤ 4096 * 2 ^ k
    → HasValue (halves x n) false (S + n * 2 ^ k) (2 ^ suc k)
unfolding halves
positive_exact x S k n v hk hn hs =
    let p : 2 ^ k ≤ 2 ^ 39 = pow_mono {i = k} {j = 39} (omega arith) in
    let q : n * 2 ^ k ≤ 4096 * 2 ^ k = mul-le-mul_right (2 ^ k) hn in
    let y = Ieee.div binary64 (Ieee.of_int binary64 (pos n)) f2 in
    let c = rescale y n 2 (n * 2 ^ k) (2 ^ suc k) (omega arith) (simp (pow-suc, mul_assoc)) (count_half n hn) in
    add_exact (Ieee.div binary64 x f2) y S (n * 2 ^ k) (suc k) (half_exact x S k v (omega arith) (omega arith)) c (omega arith) (omega arith)

-- ---- a load of -0

-- added to a number from 0 on, -0 does what 0 does
pub zero_add : (e : ℤ) (z : Float) (a c : ℕ) → HasValue z false a c → Ieee.add binary64 (fin true 0 e) z ≡ Ieee.add binary64 (fin false 0 e) z
unfolding Ieee.add Ieee.sum
zero_add e nan a c v = absurd v
zero_add e (inf t) a c v = absurd v
zero_add e (fin true n d) a c v = absurd (true≢false v.0)
zero_add e (fin false n d) a c v = simp zero-mul (go (n * up d * down e) (down e * down d) (ltb 0 (n * up d * down e)) refl)
  where
    go : (b w : ℕ) (t : Bool) → ltb 0 b ≡ t → cond t (round binary64 false (b - 0) w) (round binary64 (true && ltb b 0) (0 - b) w) ≡ round binary64 false (0 + b) w
    go b w true h = let z : b - 0 ≡ 0 + b = omega arith in ap (λ (q : ℕ). round binary64 false q w) z
    go b w false h = let z : b ≡ 0 = omega (arith, ltb-false 0 b h) in rw z

-- half of a zero is that zero
pub zero_half : (s : Bool) (e : ℤ) → Ieee.div binary64 (fin s 0 e) f2 ≡ fin s 0 (pos 0)
unfolding Ieee.div
zero_half true e = round_same binary64 true (0 * up e * 1) (2 * down e) 0 1 (omega (arith, down_pos e)) (omega arith) (simp zero-mul) ∙ unfold round in refl
zero_half false e = round_same binary64 false (0 * up e * 1) (2 * down e) 0 1 (omega (arith, down_pos e)) (omega arith) (simp zero-mul) ∙ unfold round in refl

zero-halves : (e : ℤ) (n : ℕ) → n ≤ 4096 → halves (fin true 0 e) n ≡ halves f0 n
unfolding halves
zero-halves e n h =
    let z = Ieee.div binary64 (Ieee.of_int binary64 (pos n)) f2 in
    rw (zero_half true e, zero_half false (pos 0)) (zero_add (pos 0) z n 2 (count_half n h))

pub halves-exact : (x : Float) (S k n : ℕ) → Is x S (2 ^ k) → k < 40 → n ≤ 4096 → S ≤ 4096 * 2 ^ k
    → HasValue (halves x n) false (S + n * 2 ^ k) (2 ^ suc k)
halves-exact nan S k n v hk hn hs = absurd v
halves-exact (inf t) S k n v hk hn hs = absurd v
halves-exact (fin false m e) S k n v hk hn hs = positive_exact (fin false m e) S k n (refl, v.1) hk hn hs
halves-exact (fin true m e) S k n v hk hn hs = go v.0
  where
    go : (true ≡ false) ⊎ (m ≡ 0) → HasValue (halves (fin true m e) n) false (S + n * 2 ^ k) (2 ^ suc k)
    go (inl c) = absurd (true≢false c)
    go (inr z) =
        let none : S ≡ 0 = eq_of_mul-eq-mul_right (down e) (down_pos e) S 0 (sym v.1 ∙ rw z (simp zero-mul)) in
        rw (z, none, zero-halves e n hn) (positive_exact f0 0 k n (refl, simp zero-mul) hk hn (omega arith))
