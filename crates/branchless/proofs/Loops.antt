-- A loop that tests each number below n, and the tests that let control pass.
use mathlib.Core.Path.{◌≡◌, refl, sym, ◌∙◌}
use mathlib.Core.Bool.{Bool, true, false}
use Prim.Native.Nat.{ℕ, ◌+◌, ◌≤◌, ◌<◌}
use native.Mathlib.Numerals.{add-one}
use native.Mathlib.Omega.{arith}
use borrow.Author.Rules.{rules}
use Rattle.base.specs.Tests.{pick, all_below}
use Rattle.base.proofs.AllBelow.{all-at}

-- a test, by a call's result u, that let control pass
pub passed : (b u : Bool) → u ≡ b → u ≡ true → b ≡ true
passed b u e f = sym e ∙ f

module _ (t : ℕ → Bool) where
  pub all_none : all_below t 0 ≡ true
  unfolding all_below
  all_none = refl

  pub all_more : (p : ℕ) (u : Bool) → u ≡ t p → u ≡ true → all_below t p ≡ true → all_below t (p + 1) ≡ true
  unfolding all_below pick
  all_more p u e f a = rw (add-one p, sym e ∙ f) a

  pub all-fails : (n p : ℕ) (u : Bool) → p < n → u ≡ t p → u ≡ false → false ≡ all_below t n
  all-fails n p u h e f = go (all_below t n) refl
    where
      go : (b : Bool) → all_below t n ≡ b → false ≡ b
      go false x = refl
      go true x = sym f ∙ e ∙ all-at t n x p h

  pub all_done : (n p : ℕ) → p ≤ n → n ≤ p → all_below t p ≡ true → true ≡ all_below t n
  all_done n p h k a = let e : n ≡ p = omega arith in sym (rw e a)

-- the invariant: the numbers passed are below n, and the test held of each
pub ruleset alls = (all_none, all_more, all-fails, all_done, rules)
