use native.Mathlib.Omega.{arith}
use Rattle.keeper_words.specs.Words.{word_of}
use Rattle.keeper_words.proofs.word_of.Goals as goal

pub returns : goal.returns
unfolding word_of
returns c = omega arith
