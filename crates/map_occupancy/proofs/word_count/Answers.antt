use Rattle.map_occupancy.proofs.Words.{words_paged, bits_most}
use native.Mathlib.Omega.{arith}
use borrow.Author.Rules.{rules}
use Rattle.map_occupancy.proofs.word_count.Goals as goal

pub returns-clause-answer : goal.returns-clause-answer
returns-clause-answer c = words_paged _ c.requires

pub returns-clause-bound : goal.returns-clause-bound
returns-clause-bound c = omega (arith, words_paged _ c.requires, bits_most c.args.c)
