-- Which list a page stands on, and that its class has one.
use mathlib.Core.Path.{◌≡◌, refl}
use mathlib.Core.Bool.{true}
use Prim.Native.Nat.{ℕ, zero, suc, ◌+◌, ◌-◌, ◌≤◌, ◌<◌}
use native.Mathlib.Omega.{arith}
use borrow.Author.Tests.{ne_eqb}
use Rattle.base.specs.Tests.{pick}
use Rattle.rules.specs.Fields.{Fields, kind, class}
use Rattle.rules.specs.Read.{is_head, open_at}
use Rattle.rules.specs.Rules.{shape}
use Rattle.rules.specs.Plain.{Shape}
use Rattle.rules.proofs.Shape.{shape-says}
use Rattle.validate_walk.specs.Mirror.{belongs}
use Rattle.mending.specs.Mirror.{first_from, last_below}

module _ (v : Fields) (n : ℕ) where
  heads : belongs v n 0 ≡ is_head v n
  unfolding belongs pick
  heads = refl

  opens : (c : ℕ) → belongs v n (c + 1) ≡ open_at v n c
  unfolding belongs pick
  opens c = let z : c + 1 - 1 ≡ c = omega arith in rw (ne_eqb (c + 1) 0 (λ e. omega arith), z)

  pub first_head : (r a k : ℕ) → r ≡ first_from (belongs v n 0) a k → r ≡ first_from (is_head v n) a k
  first_head r a k e = rw heads at e

  pub last_head : (r p : ℕ) → r ≡ last_below (belongs v n 0) p → r ≡ last_below (is_head v n) p
  last_head r p e = rw heads at e

  pub first_open : (r c a k : ℕ) → r ≡ first_from (belongs v n (c + 1)) a k → r ≡ first_from (open_at v n c) a k
  first_open r c a k e = rw (opens c) at e

  pub last_open : (r c p : ℕ) → r ≡ last_below (belongs v n (c + 1)) p → r ≡ last_below (open_at v n c) p
  last_open r c p e = rw (opens c) at e

  -- other pages than class pages have class 0
  pub class_low : shape v n ≡ true → (p : ℕ) → p < n → class v p ≤ 8
  class_low e p h = go (kind v p) refl (S.kinds p h)
    where
      S : Shape v n
      S = shape-says v n e

      go : (k : ℕ) → kind v p ≡ k → k ≤ 4 → class v p ≤ 8
      go zero k l = omega (arith, (S.kind0 p h k).no-class)
      go (suc zero) k l = omega (arith, (S.kind1 p h k).no-class)
      go (suc (suc zero)) k l = (S.kind2 p h k).in_range
      go (suc (suc (suc zero))) k l = omega (arith, (S.kind3 p h k).no-class)
      go (suc (suc (suc (suc zero)))) k l = omega (arith, (S.kind4 p h k).no-class)
      go (suc (suc (suc (suc (suc j))))) k l = absurd (omega arith)
