use mathlib.Core.Path.{◌≡◌}
use Prim.Native.Nat.{◌+◌, ◌-◌}
use native.Mathlib.Omega.{arith}
use Rattle.mend_order.proofs.Search.{found_first, more_first, none_first}
use Rattle.mend_order.proofs.first_from.Goals as goal

pub loop-at-init : goal.loop-at-init
loop-at-init c = let e : c.args.a + c.args.k - c.args.a ≡ c.args.k = omega arith in rw e

pub returns-then-on_list : goal.returns-then-on_list
returns-then-on_list c = found_first _ _ _ _ c.on_list.ensures _ (omega arith) c.if-on_list.true c.loop-at.invariant

pub loop-at-preserved : goal.loop-at-preserved
loop-at-preserved c = more_first _ _ _ _ c.on_list.ensures _ _ (omega arith) c.if-on_list.false c.loop-at.invariant

pub returns : goal.returns
returns c = none_first _ _ _ _ (omega arith) c.loop-at.invariant
