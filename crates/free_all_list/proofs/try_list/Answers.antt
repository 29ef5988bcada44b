use mathlib.Core.Path.{refl}
use Rattle.free_all_list.proofs.Steps.{at-start, at-end, at-refused, at_next}
use Rattle.free_all_list.proofs.try_list.Goals as goal

pub loop-i-init : goal.loop-i-init
loop-i-init c = at-start _ _ _ _

pub try_offset-requires : goal.try_offset-requires
try_offset-requires c = let p = c.requires in (p.0, rw c.loop-i.auto.pool p.1)

pub returns-in-Err : goal.returns-in-Err
returns-in-Err c =
    let all = at-refused _ _ _ _ _ _ _ _ c.loop-i-test.true refl c.in-Err.ensures _ refl c.loop-i.invariant in
    record { answer = all.0; slice = all.1 }

pub loop-i-preserved : goal.loop-i-preserved
loop-i-preserved c = at_next _ _ _ _ _ _ _ _ c.loop-i-test.true refl c.in-Ok.ensures refl _ c.put_offset.ensures c.loop-i.invariant

pub returns : goal.returns
returns c =
    let all = at-end _ _ _ _ _ _ c.loop-i-test.false c.loop-i.invariant in
    record { answer = all.0; slice = all.1 }
