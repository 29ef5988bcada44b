-- What validation tells (SPEC 3): yes exactly when all six rules hold, and else the number of the first that does not.
-- `judged` in `proofs/Judged.antt` proves it of all bytes.
use Rattle.std.specs.Prelude.{◌≡◌, ◌↔◌, List, ℕ, zero, suc, ◌≤◌, ◌<◌}
use Rattle.rules.specs.Bytes.{pages_in, fields_of, broken_rule}
use Rattle.rules.specs.Plain.{Rule1, Rule2, Rule3, Rule4, Rule5, Rule6, Peaks}

-- the six rules by their numbers, of the bytes s; 0 and the numbers past 6 ask nothing
abbrev pub Rule : ℕ → List ℕ → ℕ → Type 0
Rule w s zero = Unit {0}
Rule w s (suc zero) = Rule1 w s
Rule w s (suc (suc zero)) = Rule2 (fields_of w s) (pages_in w s)
Rule w s (suc (suc (suc zero))) = Rule3 (fields_of w s) (pages_in w s)
Rule w s (suc (suc (suc (suc zero)))) = Rule4 (fields_of w s) (pages_in w s)
Rule w s (suc (suc (suc (suc (suc zero))))) = Rule5 (fields_of w s) (pages_in w s)
Rule w s (suc (suc (suc (suc (suc (suc zero)))))) = Rule6 (fields_of w s) (pages_in w s) × Peaks w s
Rule w s (suc (suc (suc (suc (suc (suc (suc k))))))) = Unit {0}

pub record Judged (w : ℕ) (s : List ℕ) : Type 0 where
  -- 0 exactly when all six hold
  pub sound : (broken_rule w s ≡ 0) ↔ (Rule w s 1 × Rule w s 2 × Rule w s 3 × Rule w s 4 × Rule w s 5 × Rule w s 6)
  -- the number of a rule exactly when the rules before it hold and it does not
  pub broken : (k : ℕ) → 1 ≤ k → k ≤ 6 → (broken_rule w s ≡ k) ↔ (((j : ℕ) → 1 ≤ j → j < k → Rule w s j) × (¬ Rule w s k))
  -- and no other number
  pub known : broken_rule w s ≤ 6

abbrev pub Judge : Type 0
Judge = (w : ℕ) (s : List ℕ) → Judged w s
