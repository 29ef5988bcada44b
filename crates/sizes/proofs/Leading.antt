-- The class of a size by the leading zeros of the size less one, and at least 7.
use mathlib.Core.Path.{◌≡◌, refl, ap, ◌∙◌}
use mathlib.Core.Bool.{not}
use Prim.Native.Nat.{ℕ, ◌+◌, ◌-◌, ◌≤◌}
use native.Mathlib.Omega.{arith}
use lib.Bits.{bit_or}
use lib.Count.{count_leading_zeros}
use lib.Dec.{eqb, leb}
use borrow.Author.Tests.{eqb-true, leb-true, not-false}
use Rattle.base.specs.Tests.{pick}
use Rattle.base.specs.Search.{least, any}
use Rattle.base.proofs.Search.{any_false}
use Rattle.sizes.specs.Mirror.{up_to64, up_to2048, class_for}

pub leading_class : (n : ℕ) → 1 ≤ n → n ≤ 2048 → 29 - count_leading_zeros 32 (bit_or (n - 1) 7) ≡ class_for n
unfolding any least count_leading_zeros class_for up_to64 up_to2048 pick
leading_class n h k =
    let e : n - 1 + 1 ≡ n = omega arith in
    eqb-true _ _ (not-false _ (any_false (λ x. not (eqb (29 - count_leading_zeros 32 (bit_or x 7)) (class_for (x + 1)))) 2048 refl (n - 1) (omega arith)))
    ∙ ap class_for e

pub leading_least : (n : ℕ) → 1 ≤ n → n ≤ 2048 → count_leading_zeros 32 (bit_or (n - 1) 7) ≤ 29
unfolding any least count_leading_zeros
leading_least n h k = leb-true _ _ (not-false _ (any_false (λ x. not (leb (count_leading_zeros 32 (bit_or x 7)) 29)) 2048 refl (n - 1) (omega arith)))

pub leading_most : (n : ℕ) → 1 ≤ n → n ≤ 2048 → 21 ≤ count_leading_zeros 32 (bit_or (n - 1) 7)
unfolding any least count_leading_zeros
leading_most n h k = leb-true _ _ (not-false _ (any_false (λ x. not (leb 21 (count_leading_zeros 32 (bit_or x 7)))) 2048 refl (n - 1) (omega arith)))
