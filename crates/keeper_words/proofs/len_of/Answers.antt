use native.Mathlib.Omega.{arith}
use Rattle.keeper_words.specs.Words.{len_of}
use Rattle.keeper_words.proofs.len_of.Goals as goal

pub returns : goal.returns
unfolding len_of
returns c = omega arith
