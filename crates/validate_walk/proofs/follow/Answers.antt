use mathlib.Core.Path.{◌≡◌}
use Prim.Native.Nat.{◌-◌}
use native.Mathlib.Omega.{arith}
use Rattle.validate_walk.proofs.Steps.{at_bad, at_back, at_on, at-end}
use Rattle.validate_walk.proofs.follow.Goals as goal

pub loop-init : goal.loop-init
loop-init c = let e : c.args.count - 0 ≡ c.args.count = omega arith in rw e

pub returns-then-not-on_list : goal.returns-then-not-on_list
returns-then-not-on_list c = at_bad _ _ _ _ _ _ c.loop.invariant (omega arith) _ c.on_list.ensures c.if-not-on_list.true

pub returns-then-not-leads_back : goal.returns-then-not-leads_back
returns-then-not-leads_back c = at_back _ _ _ _ _ _ c.loop.invariant (omega arith) _ _ c.on_list.ensures c.if-not-on_list.false c.leads_back.ensures c.if-not-leads_back.true

pub loop-preserved : goal.loop-preserved
loop-preserved c = at_on _ _ _ _ _ _ c.loop.invariant _ (omega arith) _ _ _ c.on_list.ensures c.if-not-on_list.false c.leads_back.ensures c.if-not-leads_back.false c.next_of-at.ensures

pub returns : goal.returns
returns c = at-end _ _ _ _ _ _ c.loop.invariant (omega arith)
