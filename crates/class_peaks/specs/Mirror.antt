-- The peak of class c raised to what the class has in use, in the order of the code.
use Rattle.std.specs.Prelude.{ℕ, List, ltb}
use Rattle.base.specs.Tests.{pick}
use Rattle.records.specs.Class.{class_at, peak_at, with_peak}

unfoldable pub lifted_to : (w : ℕ) (s : List ℕ) (c peak used : ℕ) → List ℕ
lifted_to w s c peak used = pick (ltb peak used) (with_peak w s c used) s

unfoldable pub peak_lifted : (w : ℕ) (s : List ℕ) (c : ℕ) → List ℕ
peak_lifted w s c = lifted_to w s c (peak_at w s c) (class_at w s c).used

unfoldable pub peak_raised : (w : ℕ) (s : List ℕ) (c : ℕ) → List ℕ
peak_raised w s c = pick (ltb 2 w) (peak_lifted w s c) s
