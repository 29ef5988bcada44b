-- A choice by a test, from the fact that a branch gives. At a `returns`: `pick_lt _ _ (search) (cc)`.
use mathlib.Core.Path.{◌≡◌, refl, sym, ◌∙◌}
use mathlib.Core.Bool.{Bool, true, false, false≢true}
use Prim.Native.Nat.{ℕ, ◌≤◌, ◌<◌}
use lib.Dec.{ltb, leb, eqb}
use borrow.Author.Rules.{rules}
use borrow.Author.Tests.{lt-ltb, le-ltb, le-leb, lt-leb, eq-eqb, ne_eqb}
use Rattle.base.specs.Tests.{pick}

module _ {A : Type 0} {x : A} (a b : A) where
  pub pick_true : (t : Bool) → t ≡ true → x ≡ a → x ≡ pick t a b
  unfolding pick
  pick_true t e p = rw e p

  pub pick-false : (t : Bool) → t ≡ false → x ≡ b → x ≡ pick t a b
  unfolding pick
  pick-false t e p = rw e p

  -- the same where the test is a call's result u, of which the call ensures that it is t
  pub pick_on : (t u : Bool) → u ≡ t → u ≡ true → x ≡ a → x ≡ pick t a b
  unfolding pick
  pick_on t u d e p = rw (sym d ∙ e) p

  pub pick-off : (t u : Bool) → u ≡ t → u ≡ false → x ≡ b → x ≡ pick t a b
  unfolding pick
  pick-off t u d e p = rw (sym d ∙ e) p

  module _ (m n : ℕ) where
    pub pick_lt : m < n → x ≡ a → x ≡ pick (ltb m n) a b
    unfolding pick
    pick_lt h p = rw (lt-ltb m n h) p

    pub pick_ge : n ≤ m → x ≡ b → x ≡ pick (ltb m n) a b
    unfolding pick
    pick_ge h p = rw (le-ltb m n h) p

    pub pick_le : m ≤ n → x ≡ a → x ≡ pick (leb m n) a b
    unfolding pick
    pick_le h p = rw (le-leb m n h) p

    pub pick_gt : n < m → x ≡ b → x ≡ pick (leb m n) a b
    unfolding pick
    pick_gt h p = rw (lt-leb m n h) p

    pub pick_eq : m ≡ n → x ≡ a → x ≡ pick (eqb m n) a b
    unfolding pick
    pick_eq h p = rw (eq-eqb m n h) p

    pub pick_ne : (m ≡ n → ⊥) → x ≡ b → x ≡ pick (eqb m n) a b
    unfolding pick
    pick_ne h p = rw (ne_eqb m n h) p

-- for an answer that a branch decides: `returns c = search picks`, under `unfolding` the contract's definition
pub ruleset picks = (pick_true, pick-false, pick_on, pick-off, pick_lt, pick_ge, pick_le, pick_gt, pick_eq, pick_ne, rules)

-- ---- what a choice that is true says of its test
pub both_true : (t u : Bool) → pick t u false ≡ true → (t ≡ true) × (u ≡ true)
unfolding pick
both_true true u e = (refl, e)
both_true false u e = (e, absurd (false≢true e))

pub not_and_true : (t u : Bool) → pick t false u ≡ true → (t ≡ false) × (u ≡ true)
unfolding pick
not_and_true true u e = absurd (false≢true e)
not_and_true false u e = (refl, e)
