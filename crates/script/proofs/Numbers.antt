-- A number that is printed reads back.
use mathlib.Core.Path.{◌≡◌, refl, sym, ◌∙◌, ap}
use mathlib.Core.Logic.{◌⊎◌, inl, inr}
use mathlib.Core.Bool.{Bool, true, false}
use mathlib.Core.List.{List, [], ◌∷◌}
use Prim.Native.Nat.{ℕ, zero, suc, ◌+◌, ◌-◌, ◌*◌, ◌/◌, ◌%◌, ◌≤◌, ◌<◌}
use native.Mathlib.Nat.{mul-zero, mul-add, mul_assoc, mul_comm, mul_left_comm, div-one, div-eq_of_lt, div-div-eq-div-mul, le-div_iff_mul-le, div-lt_iff_lt-mul}
use native.Mathlib.Omega.{arith}
use lib.Dec.{eqb, ltb}
use lib.ListN.{length, get_or}
use borrow.Author.Tests.{lt-ltb, le-leb, eq-eqb, ne_eqb, ltb-true, ltb-false}
use Rattle.base.specs.Tests.{pick}
use Rattle.base.proofs.AllBelow.{pick_no, pick-both, if_asked, ◌&◌, all_of_lem, at_all}
use Rattle.script_numbers.specs.Numeral.{is_digit, value_of, is_number}
use Rattle.printing.specs.Text.{ten_to, digits, many_places, places, decimal}
use Rattle.printing.proofs.Digits.{ten_pos, length_digits, places-few}

-- ---- digits

digit_ok : (x : ℕ) → is_digit (48 + x % 10) ≡ true
unfolding is_digit
digit_ok x = pick-both _ _ (le-leb 48 (48 + x % 10) (omega arith)) (le-leb (48 + x % 10) 57 (omega arith))

digits_ok : (v k i : ℕ) → i < k → is_digit (get_or (digits v k) i 0) ≡ true
unfolding digits
digits_ok v zero i h = absurd (omega arith)
digits_ok v (suc k) zero h = digit_ok (v / ten_to k)
digits_ok v (suc k) (suc i) h = digits_ok v k i (omega arith)

-- ---- the value

value_cons : (d : ℕ) (s : List ℕ) (n : ℕ) → value_of (d ∷ s) (suc n) ≡ (d - 48) * ten_to n + value_of s n
unfolding value_of ten_to
value_cons d s zero = omega arith
value_cons d s (suc n) = omega (arith, value_cons d s n, mul_left_comm (d - 48) 10 (ten_to n))

-- a digit more
digit_split : (T q : ℕ) → q % 10 * T + 10 * T * (q / 10) ≡ T * q
digit_split T q =
    let whole : q ≡ 10 * (q / 10) + q % 10 = omega arith in
    let a : T * q ≡ T * (10 * (q / 10) + q % 10) = ap (λ (x : ℕ). T * x) whole in
    let b : T * (10 * (q / 10) + q % 10) ≡ T * (10 * (q / 10)) + T * (q % 10) = mul-add T (10 * (q / 10)) (q % 10) in
    let c : 10 * T * (q / 10) ≡ T * (10 * (q / 10)) = simp (mul_assoc, mul_left_comm) in
    let d : q % 10 * T ≡ T * (q % 10) = mul_comm (q % 10) T in
    omega (arith, a, b, c, d)

value_none : (s : List ℕ) → value_of s 0 ≡ 0
unfolding value_of
value_none s = refl

-- the digits below a place and what stands above it make the number
value-digits : (v k : ℕ) → value_of (digits v k) k + ten_to k * (v / ten_to k) ≡ v
unfolding digits ten_to
value-digits v zero = rw (value_none [], div-one v) (omega arith)
value-digits v (suc k) =
    let T : ℕ = ten_to k in
    let q : ℕ = v / ten_to k in
    let above : v / (10 * T) ≡ q / 10 = ap (λ (n : ℕ). v / n) (mul_comm 10 T) ∙ sym (div-div-eq-div-mul v T 10) in
    let digit : 48 + q % 10 - 48 ≡ q % 10 = omega arith in
    let first : value_of ((48 + q % 10) ∷ digits v k) (suc k) ≡ q % 10 * T + value_of (digits v k) k =
    value_cons (48 + q % 10) (digits v k) k ∙ ap (λ (d : ℕ). d * T + value_of (digits v k) k) digit in
    rw (above, first) (sum-up _ _ _ _ _ (digit_split T q) (value-digits v k))
  where
    sum-up : (a b c x r : ℕ) → a + c ≡ x → b + x ≡ r → a + b + c ≡ r
    sum-up a b c x r e f = omega (arith, e, f)

-- ---- the number of digits

abbrev Fits : ℕ → ℕ → Type 0
Fits v k = (v < ten_to k) × ((k ≡ 1) ⊎ (ten_to (k - 1) ≤ v))

fits_either : (v b k x : ℕ) → (v < b → Fits v k) → (b ≤ v → Fits v x) → Fits v (pick (ltb v b) k x)
unfolding pick
fits_either v b k x f g = go (ltb v b) refl
  where
    go : (t : Bool) → ltb v b ≡ t → Fits v (pick t k x)
    go true e = f (ltb-true v b e)
    go false e = g (ltb-false v b e)

places-fit : (v : ℕ) → v ≤ 4294967295 → Fits v (places v)
unfolding places many_places ten_to
places-fit v h =
    fits_either v 10 1 _ (λ s. (s, inl refl)) (λ l.
    fits_either v 100 2 _ (λ s. (s, inr l)) (λ l.
    fits_either v 1000 3 _ (λ s. (s, inr l)) (λ l.
    fits_either v 10000 4 _ (λ s. (s, inr l)) (λ l.
    fits_either v 100000 5 _ (λ s. (s, inr l)) (λ l.
    fits_either v 1000000 6 _ (λ s. (s, inr l)) (λ l.
    fits_either v 10000000 7 _ (λ s. (s, inr l)) (λ l.
    fits_either v 100000000 8 _ (λ s. (s, inr l)) (λ l.
    fits_either v 1000000000 9 10 (λ s. (s, inr l)) (λ l. (omega (arith, h), inr l))))))))))

-- ---- all of it

-- a number of more than one digit does not begin with 0
first_digit : (v k : ℕ) → 1 ≤ k → Fits v k → pick (eqb (get_or (digits v k) 0 0) 48) (eqb k 1) true ≡ true
unfolding digits ten_to
first_digit v zero l f = absurd (omega arith)
first_digit v (suc j) l (below, inl e) = if_asked _ _ (λ _. eq-eqb (suc j) 1 e)
first_digit v (suc j) l (below, inr e) =
    let back : suc j - 1 ≡ j = omega arith in
    let least : ten_to j ≤ v = rw back at e in
    let some : 1 ≤ v / ten_to j = (le-div_iff_mul-le {k = ten_to j} {x = 1} {y = v} (ten_pos j)).1 (omega (arith, least)) in
    let few : v / ten_to j < 10 = (div-lt_iff_lt-mul {k = ten_to j} {x = v} {y = 10} (ten_pos j)).1 below in
    pick_no _ _ _ (ne_eqb (48 + v / ten_to j % 10) 48 (λ z. absurd (omega (arith, z, some, few))))

value-back : (v : ℕ) → v ≤ 4294967295 → value_of (decimal v) (length (decimal v)) ≡ v
unfolding decimal
value-back v h =
    let none_above : v / ten_to (places v) ≡ 0 = div-eq_of_lt (places-fit v h).0 in
    let nothing : ten_to (places v) * (v / ten_to (places v)) ≡ 0 = ap (λ (x : ℕ). ten_to (places v) * x) none_above ∙ mul-zero (ten_to (places v)) in
    rw (length_digits v (places v)) (omega (arith, nothing, value-digits v (places v)))

number-back : (v : ℕ) → v ≤ 4294967295 → is_number (decimal v) ≡ true
unfolding is_number decimal
number-back v h =
    let n : length (digits v (places v)) ≡ places v = length_digits v (places v) in
    all_of_lem _ (
    lt-ltb 0 (length (digits v (places v))) (omega (arith, n, (places-few v).0)) &
    at_all _ (length (digits v (places v))) (λ i l. digits_ok v (places v) i (omega (arith, l, n))) &
    rw n (first_digit v (places v) (places-few v).0 (places-fit v h)) &
    le-leb (value_of (decimal v) (length (decimal v))) 4294967295 (omega (arith, h, value-back v h)) & tt)

pub reads_back : (v : ℕ) → v ≤ 4294967295 → (is_number (decimal v) ≡ true) × (value_of (decimal v) (length (decimal v)) ≡ v)
reads_back v h = (number-back v h, value-back v h)
