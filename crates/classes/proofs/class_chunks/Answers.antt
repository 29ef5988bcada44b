use native.Mathlib.Omega.{arith}
use Rattle.classes.proofs.Numbers.{chunks_shifted}
use Rattle.classes.proofs.class_chunks.Goals as goal

pub returns : goal.returns
returns c = chunks_shifted _ (omega arith)
