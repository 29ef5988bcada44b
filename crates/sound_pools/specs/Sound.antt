-- The bytes of a sound pool, whose class records have w words.
use Rattle.std.specs.Prelude.{◌≡◌, List, ℕ, ◌≤◌}
use Rattle.words.specs.Word.{Bytes}
use Rattle.rules.specs.Bytes.{pages_in, broken_rule}

pub record Sound (w : ℕ) (s : List ℕ) : Type 0 where
  pub wide : 2 ≤ w
  pub narrow : w ≤ 255
  pub bytes : Bytes s
  pub sound : broken_rule w s ≡ 0

-- what code after a validation is told: the pool is sound, and has so many pages
pub record Validated (w : ℕ) (s : List ℕ) (pages : ℕ) : Type 0 where
  pub pool : Sound w s
  pub counted : pages ≡ pages_in w s
