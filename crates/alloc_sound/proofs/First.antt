-- The first page of a class's list.
use Rattle.std.proofs.Common.{◌≡◌, ℕ, ◌+◌, ◌-◌, ◌/◌, ◌<◌, ◌≤◌, List, length, arith, ne_eqb}
use Rattle.base.specs.Tests.{pick}
use Rattle.records.specs.Layout.{counts_place}
use Rattle.records.specs.Class.{class_at}
use Rattle.lists.specs.Mirror.{first_of}
use Rattle.classes.specs.Mirror.{Whole}
use Rattle.classes.proofs.Numbers.{tally-whole}

module _ (w : ℕ) (s : List ℕ) (c : ℕ) where
  pub first_in : (P : ℕ) → Whole w s P → c ≤ 8 → counts_place w c < length s / 8
  first_in P whole h = omega (arith, tally-whole w P (length s / 8) whole.0 whole.1 c h)

  pub first-class : (p : ℕ) → p ≡ (class_at w s c).first.0 → p ≡ first_of w s (1 + c)
  unfolding first_of pick
  first-class p e =
      let z : 1 + c - 1 ≡ c = omega arith in
      rw (ne_eqb (1 + c) 0 (λ n. omega arith), z) e
