use Rattle.classes.proofs.Numbers.{chunks-some}
use Rattle.map_occupancy.proofs.Words.{full-word}
use native.Mathlib.Omega.{arith}
use borrow.Author.Rules.{rules}
use Rattle.model.proofs.Classes.{large-chunks}
use mathlib.Core.Path.{refl}
use Rattle.map_occupancy.proofs.full_word.Goals as goal

pub overflow_sub-result : goal.overflow_sub-result
overflow_sub-result c = omega (arith, c.chunk_count-n.ensures, chunks-some c.args.c)

pub overflow_shr-result : goal.overflow_shr-result
overflow_shr-result c = omega (arith, c.chunk_count-n.ensures, large-chunks c.args.c c.requires)

pub returns : goal.returns
returns c = full-word _ _ c.requires (rw c.chunk_count-n.ensures refl)
