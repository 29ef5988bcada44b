-- Sums, and how many numbers pass a test.
use Rattle.std.specs.Prelude.{Bool, true, false, ℕ, zero, suc, ◌+◌}

-- h 0 + .. + h (n - 1)
unfoldable pub sum : (ℕ → ℕ) → ℕ → ℕ
sum h zero = 0
sum h (suc n) = sum h n + h n

abbrev pub bit : Bool → ℕ
bit true = 1
bit false = 0

-- how many numbers below n pass the test q
unfoldable pub count : (q : (ℕ → Bool)) (n : ℕ) → ℕ
count q n = sum (λ i. bit (q i)) n
