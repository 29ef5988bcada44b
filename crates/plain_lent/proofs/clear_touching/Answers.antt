use Rattle.std.proofs.Common.{refl, arith, ap, ◌++◌, drop}
use Rattle.plain.specs.Table.{vacant, apart, cleared}
use Rattle.plain.proofs.Loops.{remade-next, remade-end}
use Rattle.plain_lent.proofs.clear_touching.Goals as goal

pub loop-e-init : goal.loop-e-init
unfolding cleared
loop-e-init c = refl

pub loop-e-preserved : goal.loop-e-preserved
unfolding vacant
loop-e-preserved c = remade-next (λ j e. apart c.args.p c.args.q e) _ _ _ vacant _ c.loop-e.invariant (omega arith) c.set_apart.ensures

pub returns : goal.returns
returns c = ap (λ t. t ++ drop 12 c.args.table.now) (remade-end (λ j e. apart c.args.p c.args.q e) _ _ _ c.loop-e.invariant (omega arith))
