-- From the answers of the tests to the first broken rule.
use mathlib.Core.Path.{◌≡◌, refl, sym, ◌∙◌}
use mathlib.Core.Bool.{Bool, true, false, not}
use mathlib.Core.List.{List, [], ◌∷◌}
use Prim.Native.Nat.{ℕ, zero, suc, ◌≤◌}
use native.Mathlib.Omega.{arith}
use lib.ListN.{get_or}
use borrow.Author.Rules.{rules}
use borrow.Author.Tests.{leb-true, not-true, not-false}
use Rattle.base.specs.Tests.{pick, all_of}
use Rattle.base.proofs.Tests.{both_true}
use Rattle.model.specs.Classes.{max_pages}
use Rattle.model.proofs.Classes.{max_pages_lem}
use Rattle.branchless.proofs.Loops.{passed}
use Rattle.rules.specs.Bytes.{pages_in, rule1, counts_and_peaks, broken_rule}
use Rattle.validate.specs.Mirror.{from_rule2, from_rule3}

-- rule 1 bounds the page count
pub few-pages : (w : ℕ) (s : List ℕ) (n : ℕ) (u : Bool) → n ≡ pages_in w s → u ≡ rule1 w s → u ≡ true → n ≤ 4096
unfolding rule1 all_of
few-pages w s n u e d f =
    let a = both_true _ _ (passed _ u d f) in
    let b = both_true _ _ a.1 in
    let z : pages_in w s ≤ max_pages = leb-true (pages_in w s) max_pages b.0 in
    omega (arith, max_pages_lem)

-- ---- new counters

abbrev zeros : ℕ → List ℕ
zeros zero = []
zeros (suc k) = 0 ∷ zeros k

pub all-zero : (k j : ℕ) → get_or (zeros k) j 0 ≡ 0
all-zero zero j = refl
all-zero (suc k) zero = refl
all-zero (suc k) (suc j) = all-zero k j

-- ---- a choice by a test of a call's result u

module _ {A : Type 0} {x : A} (a b : A) (t u : Bool) (e : u ≡ t) where
  pub pick-fails : u ≡ false → x ≡ b → x ≡ pick t a b
  unfolding pick
  pick-fails f p = rw (sym e ∙ f) p

  pub pick_passes : u ≡ true → x ≡ a → x ≡ pick t a b
  unfolding pick
  pick_passes f p = rw (sym e ∙ f) p

pub ruleset firsts = (pick-fails, pick_passes, rules)

pub after_header : (w : ℕ) (s : List ℕ) (n r : ℕ) (u : Bool) → n ≡ pages_in w s → u ≡ rule1 w s → u ≡ true → r ≡ from_rule2 w s n → r ≡ broken_rule w s
unfolding broken_rule counts_and_peaks from_rule2 from_rule3
after_header w s n r u e d f q = pick_passes _ _ (rule1 w s) u d f (rw e at q)
