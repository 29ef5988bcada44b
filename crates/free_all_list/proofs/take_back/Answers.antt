use mathlib.Core.Path.{refl}
use native.Mathlib.Omega.{arith}
use Rattle.free_all_list.proofs.Steps.{back-next, back_end}
use Rattle.free_all_list.proofs.take_back.Goals as goal

pub loop-i-init : goal.loop-i-init
loop-i-init c = refl

pub loop-i-preserved : goal.loop-i-preserved
loop-i-preserved c = back-next _ _ _ _ _ _ _ _ c.loop-i-test.true (omega arith) refl c.put_offset.ensures c.loop-i.invariant

pub returns : goal.returns
returns c = back_end _ _ _ _ _ _ c.loop-i-test.false c.loop-i.invariant
