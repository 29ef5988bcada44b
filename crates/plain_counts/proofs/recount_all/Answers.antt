use Rattle.std.proofs.Common.{refl, arith, length-set}
use Rattle.plain.specs.Plain.{no_counts}
use Rattle.plain.proofs.Loops.{remade-next, remade-end}
use Rattle.plain_rules.specs.Counts.{class_recounted}
use Rattle.plain_counts.proofs.recount_all.Goals as goal

pub loop-c-init : goal.loop-c-init
loop-c-init c = (omega arith, refl)

pub loop-c-preserved : goal.loop-c-preserved
unfolding no_counts
loop-c-preserved c =
    (simp length-set c.loop-c.invariant.0, remade-next (class_recounted c.args.pages c.args.bytes.now) _ _ _ no_counts _ c.loop-c.invariant.1 (omega arith) c.recount_class.ensures)

pub returns : goal.returns
returns c = remade-end (class_recounted c.args.pages c.args.bytes.now) _ _ _ c.loop-c.invariant.1 (omega arith)
