use native.Mathlib.Omega.{arith}
use Rattle.model.proofs.Classes.{large-chunks}
use Rattle.classes.proofs.Numbers.{chunks-some}
use Rattle.validate_slabs.proofs.Arms.{unit_some, unused}
use Rattle.validate_slabs.proofs.unused_clear.Goals as goal

pub overflow_sub-result : goal.overflow_sub-result
overflow_sub-result c = omega (arith, c.chunk_count-n.ensures, chunks-some c.args.c)

pub overflow_shr-result : goal.overflow_shr-result
overflow_shr-result c = omega (arith, c.chunk_count-n.ensures, large-chunks c.args.c c.requires)

pub nonzero_rem-result : goal.nonzero_rem-result
nonzero_rem-result c = unit_some c.args.c _ c.requires c.chunk_count-n.ensures

pub returns : goal.returns
returns c = unused _ _ _ c.requires c.chunk_count-n.ensures
