use native.Mathlib.Omega.{arith}
use Rattle.keeper_words.specs.Words.{key_of}
use Rattle.keeper_words.proofs.key_of.Goals as goal

pub returns : goal.returns
unfolding key_of
returns c = omega arith
