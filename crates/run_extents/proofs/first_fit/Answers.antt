use native.Mathlib.Omega.{arith}
use Rattle.run_extents.proofs.Steps.{fits, fit_here}
use Rattle.run_extents.proofs.first_fit.Goals as goal

pub loop-init : goal.loop-init
loop-init c = search fits

pub returns-then-p : goal.returns-then-p
returns-then-p c = search fits

pub returns-then-k-l : goal.returns-then-k-l
returns-then-k-l c = fit_here _ _ _ _ _ _ c.if-p.false c.get_links-l.ensures _ (omega arith) c.if-k-l.true c.loop.invariant

pub loop-preserved : goal.loop-preserved
loop-preserved c = search fits

pub returns : goal.returns
returns c = search fits
