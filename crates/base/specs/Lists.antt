-- Membership, no repeats, and the elements that pass a test.
use Rattle.std.specs.Prelude.{◌≡◌, ◌⊎◌, Bool, false, cond, ◌||◌, List, [], ◌∷◌}

-- x stands in the list
abbrev pub Mem : {A : Type 0} → A → List A → Type 0
Mem x [] = ⊥
Mem x (y ∷ ys) = (x ≡ y) ⊎ Mem x ys

-- no element stands twice
abbrev pub NoDup : {A : Type 0} → List A → Type 0
NoDup [] = Unit {0}
NoDup (x ∷ xs) = (¬ Mem x xs) × NoDup xs

-- the elements that pass the test q, in order
abbrev pub keep : {A : Type 0} → (A → Bool) → List A → List A
keep q [] = []
keep q (x ∷ xs) = cond (q x) (x ∷ keep q xs) (keep q xs)

-- some element passes the test q
abbrev pub has : {A : Type 0} → (A → Bool) → List A → Bool
has q [] = false
has q (x ∷ xs) = q x || has q xs
