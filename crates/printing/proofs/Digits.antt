-- Powers of ten, and how many digits a number has.
use mathlib.Core.Path.{◌≡◌, refl}
use mathlib.Core.Bool.{Bool, true, false}
use Prim.Native.Nat.{ℕ, zero, suc, ◌^◌, ◌≤◌, ◌<◌}
use native.Mathlib.Omega.{arith}
use Rattle.std.proofs.Math.Nat.{pow-succ', pow-le-pow_right, one-le-pow}
use lib.ListN.{length}
use Rattle.base.specs.Tests.{pick}
use Rattle.printing.specs.Text.{ten_to, digits, many_places, places, decimal}

pub ten_power : (k : ℕ) → ten_to k ≡ 10 ^ k
unfolding ten_to
ten_power zero = refl
ten_power (suc k) = rw (pow-succ' 10 k) (rw (ten_power k))

pub power_small : (k : ℕ) → k ≤ 10 → 10 ^ k ≤ 10000000000
power_small k h = pow-le-pow_right {n = 10} (omega arith) h

pub ten_pos : (k : ℕ) → 0 < ten_to k
ten_pos k = rw (ten_power k) (one-le-pow k 10 (omega arith))

abbrev Few : ℕ → Type 0
Few k = (1 ≤ k) × (k ≤ 10)

few_either : (t : Bool) (a b : ℕ) → Few a → Few b → Few (pick t a b)
unfolding pick
few_either true a b x y = x
few_either false a b x y = y

pub places-few : (v : ℕ) → Few (places v)
unfolding places many_places
places-few v =
    few_either _ 1 _ (omega arith, omega arith)
    (few_either _ 2 _ (omega arith, omega arith)
    (few_either _ 3 _ (omega arith, omega arith)
    (few_either _ 4 _ (omega arith, omega arith)
    (few_either _ 5 _ (omega arith, omega arith)
    (few_either _ 6 _ (omega arith, omega arith)
    (few_either _ 7 _ (omega arith, omega arith)
    (few_either _ 8 _ (omega arith, omega arith)
    (few_either _ 9 10 (omega arith, omega arith) (omega arith, omega arith)))))))))

pub length_digits : (v k : ℕ) → length (digits v k) ≡ k
unfolding digits
length_digits v zero = refl
length_digits v (suc k) = rw (length_digits v k)

pub length-decimal : (v : ℕ) → length (decimal v) ≡ places v
unfolding decimal
length-decimal v = length_digits v (places v)

pub decimal-few : (v : ℕ) → Few (length (decimal v))
decimal-few v = rw (length-decimal v) (places-few v)
