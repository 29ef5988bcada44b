use mathlib.Core.Path.{◌∙◌, ap}
use Prim.Native.Nat.{ℕ}
use lib.Dec.{leb}
use Rattle.script_numbers.proofs.Values.{capped_fits}
use Rattle.script_numbers.proofs.in_range.Goals as goal

pub returns : goal.returns
returns c = ap (λ (v : ℕ). leb v 4294967295) c.value.ensures.answer ∙ capped_fits _
