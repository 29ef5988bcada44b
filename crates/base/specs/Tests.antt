-- Choices and tests that code makes.
use Rattle.std.specs.Prelude.{Bool, true, false, List, [], ◌∷◌, ℕ, zero, suc}

-- a where the test holds, and b where it does not; shut, so that a definition with many choices stays as written
unfoldable pub pick {ℓ} : {A : Type ℓ} → Bool → A → A → A
pick true a b = a
pick false a b = b

-- all of these hold
unfoldable pub all_of : List Bool → Bool
all_of [] = true
all_of (b ∷ bs) = pick b (all_of bs) false

-- each number below n passes the test
unfoldable pub all_below : (ℕ → Bool) → ℕ → Bool
all_below t zero = true
all_below t (suc n) = pick (t n) (all_below t n) false
