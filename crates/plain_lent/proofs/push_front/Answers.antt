use Rattle.std.proofs.Common.{◌∙◌, sym, arith, ap, ◌++◌, drop}
use Rattle.plain.specs.Table.{vacant, is_vacant}
use Rattle.plain.proofs.Loops.{push_here, push-next, push-end}
use Rattle.plain_lent.proofs.push_front.Goals as goal

pub loop-place-preserved : goal.loop-place-preserved
unfolding vacant
loop-place-preserved c = push-next is_vacant _ _ _ vacant _ c.loop-place.invariant (omega arith) (sym c.is_vacant.ensures ∙ c.if-is_vacant.false)

pub returns-after-loop-place : goal.returns-after-loop-place
returns-after-loop-place c = ap (λ t. t ++ drop 12 c.args.table.now) (push-end is_vacant _ _ _ _ c.loop-place.invariant (omega arith))

pub returns-then-is_vacant : goal.returns-then-is_vacant
unfolding vacant
returns-then-is_vacant c = ap (λ t. t ++ drop 12 c.args.table.now) (push_here is_vacant _ _ _ vacant _ c.loop-place.invariant (omega arith) (sym c.is_vacant.ensures ∙ c.if-is_vacant.true))
