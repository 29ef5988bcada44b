use mathlib.Core.Path.{◌≡◌, refl}
use mathlib.Core.Logic.{inl, inr}
use native.Mathlib.Omega.{arith}
use lib.ListN.{length}
use Rattle.script_lines.proofs.Split.{plain-none, plain_more, line_splits}
use Rattle.script_lines.proofs.line_end.Goals as goal

pub loop-end-init : goal.loop-end-init
loop-end-init c = plain-none _ _

pub returns-then-input-end-eq10 : goal.returns-then-input-end-eq10
returns-then-input-end-eq10 c = (omega arith, omega arith, line_splits _ _ _ (omega arith) c.loop-end.invariant (inl (omega arith, c.if-input-end-eq10.true)))

pub loop-end-preserved : goal.loop-end-preserved
loop-end-preserved c = plain_more _ _ _ _ c.loop-end.invariant refl c.if-input-end-eq10.false

pub returns : goal.returns
returns c = let e : c.loop-end.end ≡ length c.args.input.now = omega arith in
    (omega arith, omega arith, line_splits _ _ (length c.args.input.now) (omega arith) (rw e at c.loop-end.invariant) (inr (omega arith, refl)))
