-- Decimal numbers in a script: which bytes are one, and its value.
use Rattle.std.specs.Prelude.{ℕ, zero, suc, ◌+◌, ◌-◌, ◌*◌, Bool, true, false, List, [], ◌∷◌, eqb, leb, ltb, length, get_or}
use Rattle.base.specs.Tests.{pick, all_of, all_below}

unfoldable pub is_digit : ℕ → Bool
is_digit b = pick (leb 48 b) (leb b 57) false

-- the value of the first n digits
unfoldable pub value_of : List ℕ → ℕ → ℕ
value_of s zero = 0
value_of s (suc n) = value_of s n * 10 + (get_or s n 0 - 48)

-- digits without needless leading zeros, up to 4294967295
unfoldable pub is_number : List ℕ → Bool
is_number s = all_of (
    ltb 0 (length s) ∷
    all_below (λ i. is_digit (get_or s i 0)) (length s) ∷
    pick (eqb (get_or s 0 0) 48) (eqb (length s) 1) true ∷
    leb (value_of s (length s)) 4294967295 ∷ [])

-- what the code computes: a value past the largest number is as good as the next
unfoldable pub capped : ℕ → ℕ
capped v = pick (leb v 4294967295) v 4294967296
