use native.Mathlib.Omega.{arith}
use Rattle.validate_length.proofs.page_count.Goals as goal

pub returns : goal.returns
returns c = omega arith
