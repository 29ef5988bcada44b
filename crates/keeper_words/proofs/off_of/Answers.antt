use native.Mathlib.Omega.{arith}
use Rattle.keeper_words.specs.Words.{off_of}
use Rattle.keeper_words.proofs.off_of.Goals as goal

pub returns : goal.returns
unfolding off_of
returns c = omega arith
