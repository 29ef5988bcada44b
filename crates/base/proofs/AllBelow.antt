-- What `all_of` and `all_below` of `specs/Tests.antt`, and a test that is asked only where another holds, say.
use mathlib.Core.Path.{◌≡◌, refl, sym}
use mathlib.Core.Bool.{Bool, true, false, false≢true}
use mathlib.Core.List.{List, [], ◌∷◌}
use Prim.Native.Nat.{ℕ, zero, suc, ◌<◌}
use native.Mathlib.Omega.{arith}
use borrow.Author.Count.{below_none, below_more}
use Rattle.base.specs.Tests.{pick, all_of, all_below}
use Rattle.base.proofs.Tests.{both_true}

-- ---- a choice
pub pick_yes : {A : Type 0} (t : Bool) (a b : A) → t ≡ true → pick t a b ≡ a
unfolding pick
pick_yes t a b e = rw e

pub pick_no : {A : Type 0} (t : Bool) (a b : A) → t ≡ false → pick t a b ≡ b
unfolding pick
pick_no t a b e = rw e

pub pick-both : (t u : Bool) → t ≡ true → u ≡ true → pick t u false ≡ true
unfolding pick
pick-both t u a b = rw (a, b)

-- a test that is asked only where another holds
pub asked : (t u : Bool) → pick t u true ≡ true → t ≡ true → u ≡ true
unfolding pick
asked true u e h = e
asked false u e h = absurd (false≢true h)

pub if_asked : (t u : Bool) → (t ≡ true → u ≡ true) → pick t u true ≡ true
unfolding pick
if_asked true u h = h refl
if_asked false u h = refl

-- a test that is asked only where another does not hold
pub unless : (t u : Bool) → pick t true u ≡ true → t ≡ false → u ≡ true
unfolding pick
unless true u e h = absurd (false≢true (sym h))
unless false u e h = e

pub if_unless : (t u : Bool) → (t ≡ false → u ≡ true) → pick t true u ≡ true
unfolding pick
if_unless true u h = refl
if_unless false u h = h refl

-- two choices are equal where their tests are, and the values that the test leads to
pub pick_same : {A : Type 0} (t t' : Bool) {a a' b b' : A} → t ≡ t' → (t ≡ true → a ≡ a') → (t ≡ false → b ≡ b') → pick t a b ≡ pick t' a' b'
unfolding pick
pick_same true t' e f g = rw (← e) (f refl)
pick_same false t' e f g = rw (← e) (g refl)

-- ---- all of a list of tests
abbrev pub AllOf : List Bool → Type 0
AllOf [] = Unit {0}
AllOf (b ∷ bs) = (b ≡ true) × AllOf bs

-- `all_of_lem _ (a & b & c & tt)`
infixr 2 ◌&◌
pub ◌&◌ : {A B : Type 0} → A → B → A × B
a & b = (a, b)

pub each_of : (bs : List Bool) → all_of bs ≡ true → AllOf bs
unfolding all_of
each_of [] e = tt
each_of (b ∷ bs) e = let x = both_true b (all_of bs) e in (x.0, each_of bs x.1)

pub all_of_lem : (bs : List Bool) → AllOf bs → all_of bs ≡ true
unfolding all_of
all_of_lem [] h = refl
all_of_lem (b ∷ bs) h = pick-both b (all_of bs) h.0 (all_of_lem bs h.1)

-- a later test matters only where the earlier ones hold
pub all_of_same : (b c : Bool) (bs cs : List Bool) → b ≡ c → (b ≡ true → all_of bs ≡ all_of cs) → all_of (b ∷ bs) ≡ all_of (c ∷ cs)
unfolding all_of
all_of_same b c bs cs e f = pick_same b c e f (λ _. refl)

-- ---- a test of each number below n
module _ (t : ℕ → Bool) where
  pub all-at : (n : ℕ) → all_below t n ≡ true → (k : ℕ) → k < n → t k ≡ true
  unfolding all_below
  all-at zero e k h = below_none (λ (j : ℕ). t j ≡ true) k h
  all-at (suc n) e k h =
      let x = both_true (t n) (all_below t n) e in
      below_more (λ (j : ℕ). t j ≡ true) n (all-at n x.1) x.0 k (omega arith)

  pub at_all : (n : ℕ) → ((k : ℕ) → k < n → t k ≡ true) → all_below t n ≡ true
  unfolding all_below
  at_all zero h = refl
  at_all (suc n) h = pick-both _ _ (h n (omega arith)) (at_all n (λ k l. h k (omega arith)))

pub all_same : (t u : ℕ → Bool) (n : ℕ) → ((k : ℕ) → k < n → t k ≡ u k) → all_below t n ≡ all_below u n
unfolding all_below
all_same t u zero e = refl
all_same t u (suc n) e = rw (e n (omega arith), all_same t u n (λ k l. e k (omega arith)))
