-- Tests of floats in plain form, and that half and half stays in range.
--     range_in, range_is   `in_range` is `UpTo 4096`
--     above                `lt` is `Above`, on numbers in range
--     halves-up_to         half a load in range plus half a count in range is in range, rounded or not
use Prim.Native.Nat.{ℕ, ◌+◌, ◌*◌, ◌≤◌, ◌<◌}
use mathlib.Core.Path.{◌≡◌, refl, sym, ap, ◌∙◌, subst}
use mathlib.Core.Logic.{◌⊎◌, inl, inr}
use mathlib.Core.Bool.{Bool, true, false, true≢false, ◌&&◌, ◌||◌}
use native.Mathlib.Omega.{arith}
use native.Mathlib.Nat.{mul_assoc, mul_right_comm, mul-one, zero-mul, mul-pos, mul-le-mul_right, le_of_mul-le-mul_right, eq_of_mul-eq-mul_right}
use lib.Dec.{T, ltb, eqb, ltb→lt, eqb→eq}
use lib.IntN.{ℤ, pos}
use lib.Ieee as Ieee
use lib.Ieee.{Float, nan, inf, fin, binary64, up, down, round, below}
use lib.Ieee.Fits.{up_pos, down_pos, and_l}
use lib.Ieee.Exact.{HasValue}
use lib.Ieee.Order.{le_of_values, round_mono}
use borrow.Author.Tests.{lt-ltb, le-ltb}
use Rattle.base.specs.Tests.{pick}
use Rattle.base.proofs.Tests.{both_true}
use Rattle.base.proofs.Cases.{decided}
use Rattle.gauge.specs.Gauge.{f0, f2, f4096, in_range, halves}
use Rattle.gauge.specs.Claim.{UpTo, Is, Above}
use Rattle.gauge.proofs.Exact.{count_half, zero_add, zero_half}

holds : (t : Bool) → T t → t ≡ true
holds true h = refl
holds false h = absurd h

met : {t : Bool} → t ≡ true → T t
met e = rw e tt

-- ---- comparisons with 0 and with a bound

at_most : (a b : ℕ) (t : Bool) → T (ltb a b || (eqb a b && t)) → a ≤ b
at_most a b t h = go (ltb a b) refl h
  where
    go : (u : Bool) → ltb a b ≡ u → T (u || (eqb a b && t)) → a ≤ b
    go true e k = omega (arith, ltb→lt a b (met e))
    go false e k = same (eqb a b) refl k
      where
        same : (u : Bool) → eqb a b ≡ u → T (u && t) → a ≤ b
        same true e k = omega (arith, eqb→eq a b (met e))
        same false e k = absurd k

no_factor : (m u : ℕ) → 0 < u → m * u ≡ 0 → m ≡ 0
no_factor m u p e = eq_of_mul-eq-mul_right u p m 0 (e ∙ sym (zero-mul u))

-- from 0 to the float h · 2 ^ j, which is b
up_to : (x : Float) (h : ℕ) (j : ℤ) (b : ℕ) → h * up j ≡ b * down j → T (Ieee.le f0 x) → T (Ieee.le x (fin false h j)) → UpTo b x
unfolding Ieee.le
up_to nan h j b e lo hi = absurd lo
up_to (inf true) h j b e lo hi = absurd lo
up_to (inf false) h j b e lo hi = absurd hi
up_to (fin false m d) h j b e lo hi =
    let l : m * up d * down j ≤ h * up j * down d = at_most (m * up d * down j) (h * up j * down d) _ hi in
    let r : h * up j * down d ≡ b * down d * down j = ap (λ (q : ℕ). q * down d) e ∙ mul_right_comm b (down j) (down d) in
    (inl refl, le_of_mul-le-mul_right (rw r at l) (down_pos j))
up_to (fin true m d) h j b e lo hi =
    let z : 0 ≡ m * up d = simp (zero-mul, mul-one) at (eqb→eq (0 * up (pos 0) * down d) (m * up d * down (pos 0)) (and_l (eqb (0 * up (pos 0) * down d) (m * up d * down (pos 0))) _ lo)) in
    (inr (no_factor m (up d) (up_pos d) (sym z)), omega arith)

pub range_in : (x : Float) → in_range x ≡ true → UpTo 4096 x
unfolding in_range
range_in x e = let b = both_true (Ieee.le f0 x) (Ieee.le x f4096) e in up_to x 1 (pos 12) 4096 refl (met b.0) (met b.1)

zero_range : (e : ℤ) → in_range (fin true 0 e) ≡ true
unfolding in_range pick Ieee.le
zero_range e =
    let lo : eqb (0 * up (pos 0) * down e) (0 * up e * down (pos 0)) ≡ true = simp zero-mul in
    let hi : ltb 0 (0 * up e * down (pos 12) + 1 * up (pos 12) * down e) ≡ true = lt-ltb 0 (0 * up e * down (pos 12) + 1 * up (pos 12) * down e) (omega (arith, down_pos e)) in
    let sign : eqb (0 * up (pos 0) * down e) 0 ≡ true = simp zero-mul in
    rw (lo, hi, sign)

pub range_is : (x : Float) → UpTo 4096 x → in_range x ≡ true
unfolding in_range pick
range_is nan u = absurd u
range_is (inf s) u = absurd u
range_is (fin false m e) u =
    let x = fin false m e in
    let lo = holds (Ieee.le f0 x) (le_of_values f0 x 0 1 (m * up e) (down e) (omega arith) (down_pos e) (refl, refl) (refl, refl) (rw zero-mul (omega arith))) in
    let hi = holds (Ieee.le x f4096) (le_of_values x f4096 (m * up e) (down e) 4096 1 (down_pos e) (omega arith) (refl, refl) (refl, refl) (rw mul-one u.1)) in
    rw (lo, hi)
range_is (fin true m e) u = go u.0
  where
    go : (true ≡ false) ⊎ (m ≡ 0) → in_range (fin true m e) ≡ true
    go (inl c) = absurd (true≢false c)
    go (inr z) = rw z (zero_range e)

-- ---- two numbers from 0 on

below-is : (s t : Bool) (a b : ℕ) → (s ≡ false) ⊎ (a ≡ 0) → (t ≡ false) ⊎ (b ≡ 0) → below s a t b ≡ ltb a b
below-is false false a b u v = refl
below-is false true a b u (inl c) = absurd (true≢false c)
below-is false true a b u (inr z) = sym (le-ltb a b (omega arith))
below-is true t a b (inl c) v = absurd (true≢false c)
below-is true false a b (inr z) v = let e : a + b ≡ b = omega arith in rw (e, z)
below-is true true a b (inr z) (inl c) = absurd (true≢false c)
below-is true true a b (inr z) (inr y) = rw (z, y)

scaled : (s : Bool) (m u v : ℕ) → (s ≡ false) ⊎ (m ≡ 0) → (s ≡ false) ⊎ (m * u * v ≡ 0)
scaled s m u v (inl e) = inl e
scaled s m u v (inr e) = inr (rw e (simp zero-mul))

pub above : (x y : Float) → UpTo 4096 x → UpTo 4096 y → (t : Bool) → (t ≡ true → Above x y) → (t ≡ false → ¬ Above x y) → Ieee.lt y x ≡ t
unfolding Ieee.lt
above nan y u v t h k = absurd u
above (inf s) y u v t h k = absurd u
above (fin s m e) nan u v t h k = absurd v
above (fin s m e) (inf r) u v t h k = absurd v
above (fin s m e) (fin r n d) u v t h k = below-is r s (n * up d * down e) (m * up e * down d) (scaled r n (up d) (down e) v.0) (scaled s m (up e) (down d) u.0) ∙ go t h k
  where
    go : (t : Bool) → (t ≡ true → Above (fin s m e) (fin r n d)) → (t ≡ false → ¬ Above (fin s m e) (fin r n d)) → ltb (n * up d * down e) (m * up e * down d) ≡ t
    go true h k = lt-ltb (n * up d * down e) (m * up e * down d) (h refl)
    go false h k = decided (ltb (n * up d * down e) (m * up e * down d)) (λ l. k refl (ltb→lt (n * up d * down e) (m * up e * down d) (met l)))

-- ---- half and half

round-up_to : (a c b h : ℕ) (j : ℤ) → round binary64 false b 1 ≡ fin false h j → h * up j ≡ b * down j → 0 < c → a ≤ b * c → UpTo b (round binary64 false a c)
round-up_to a c b h j r e p l =
    let zero : round binary64 false 0 1 ≡ f0 = unfold round in refl in
    up_to (round binary64 false a c) h j b e
    (subst (λ (y : Float). T (Ieee.le y (round binary64 false a c))) zero (round_mono binary64 0 1 a c (omega arith) p (rw zero-mul (omega arith))))
    (subst (λ (y : Float). T (Ieee.le (round binary64 false a c) y)) r (round_mono binary64 a c b 1 p (omega arith) (rw mul-one l)))

half_up_to : (x : Float) → UpTo 4096 x → UpTo 2048 (Ieee.div binary64 x f2)
unfolding Ieee.div
half_up_to nan u = absurd u
half_up_to (inf s) u = absurd u
half_up_to (fin false m e) u = round-up_to (m * up e * 1) (2 * down e) 2048 1 (pos 11) (unfold round in refl) refl (omega (arith, down_pos e)) (rw mul-one (omega (arith, u.1)))
half_up_to (fin true m e) u = go u.0
  where
    go : (true ≡ false) ⊎ (m ≡ 0) → UpTo 2048 (Ieee.div binary64 (fin true m e) f2)
    go (inl c) = absurd (true≢false c)
    go (inr z) = rw (z, zero_half true e) (inr refl, omega arith)

sum-up_to : (m p n : ℕ) (e d : ℤ) → m * up e ≤ 2048 * down e → p * up d * 2 ≡ n * down d → n ≤ 4096 → UpTo 4096 (Ieee.add binary64 (fin false m e) (fin false p d))
unfolding Ieee.add Ieee.sum
sum-up_to m p n e d u v h =
    let l : m * up e * down d ≤ 2048 * down e * down d = mul-le-mul_right (down d) u in
    let k : n * down d ≤ 4096 * down d = mul-le-mul_right (down d) h in
    let q : p * up d ≤ 2048 * down d = omega arith in
    let r : p * up d * down e ≤ 2048 * down d * down e = mul-le-mul_right (down e) q in
    let a : 2048 * down e * down d ≡ 2048 * (down e * down d) = mul_assoc 2048 (down e) (down d) in
    let b : 2048 * down d * down e ≡ 2048 * (down e * down d) = mul_right_comm 2048 (down d) (down e) ∙ a in
    round-up_to (m * up e * down d + p * up d * down e) (down e * down d) 4096 1 (pos 12) (unfold round in refl) refl (mul-pos (down_pos e) (down_pos d)) (omega arith)

add_up_to : (y z : Float) (n : ℕ) → UpTo 2048 y → HasValue z false n 2 → n ≤ 4096 → UpTo 4096 (Ieee.add binary64 y z)
add_up_to nan z n u v h = absurd u
add_up_to (inf s) z n u v h = absurd u
add_up_to (fin s m e) nan n u v h = absurd v
add_up_to (fin s m e) (inf t) n u v h = absurd v
add_up_to (fin s m e) (fin true p d) n u v h = absurd (true≢false v.0)
add_up_to (fin false m e) (fin false p d) n u v h = sum-up_to m p n e d u.1 v.1 h
add_up_to (fin true m e) (fin false p d) n u v h = go u.0
  where
    go : (true ≡ false) ⊎ (m ≡ 0) → UpTo 4096 (Ieee.add binary64 (fin true m e) (fin false p d))
    go (inl c) = absurd (true≢false c)
    go (inr z) = rw (z, zero_add e (fin false p d) n 2 v) (sum-up_to 0 p n e d (rw zero-mul (omega arith)) v.1 h)

pub halves-up_to : (x : Float) (n : ℕ) → UpTo 4096 x → n ≤ 4096 → UpTo 4096 (halves x n)
unfolding halves
halves-up_to x n u h = add_up_to (Ieee.div binary64 x f2) (Ieee.div binary64 (Ieee.of_int binary64 (pos n)) f2) n (half_up_to x u) (count_half n h) h

-- a fraction of at most b
pub is-up_to : (x : Float) (a c b : ℕ) → 0 < c → a ≤ b * c → Is x a c → UpTo b x
is-up_to nan a c b p h v = absurd v
is-up_to (inf s) a c b p h v = absurd v
is-up_to (fin s m e) a c b p h v =
    let l : a * down e ≤ b * c * down e = mul-le-mul_right (down e) h in
    (v.0, le_of_mul-le-mul_right (rw (v.1, mul_right_comm b (down e) c) l) p)
