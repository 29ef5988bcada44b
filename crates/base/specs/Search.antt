-- The least number that passes a test.
use Rattle.std.specs.Prelude.{Bool, cond, ℕ, zero, suc, ltb}

-- the least number below n that passes the test q; n where none does
unfoldable pub least : (ℕ → Bool) → ℕ → ℕ
least q zero = zero
least q (suc n) = cond (ltb (least q n) n) (least q n) (cond (q n) n (suc n))

-- some number below n passes the test q
unfoldable pub any : (q : (ℕ → Bool)) (n : ℕ) → Bool
any q n = ltb (least q n) n
