use Rattle.std.proofs.Common.{sym, arith, rules}
use mathlib.Core.Bool.{false≢true}
use Rattle.rules.specs.Rules.{rule2}
use Rattle.branchless.proofs.Loops.{all_none, all_done}
use Rattle.validate_runs.proofs.Whole.{border-start}
use Rattle.validate_pages.proofs.Pass.{pass_none, pass_done}
use Rattle.validate_pages.proofs.Runs.{all_steps, pass_steps}
use Rattle.validate_pages.proofs.scan.Goals as goal

pub loop-p-init : goal.loop-p-init
loop-p-init c = (search rules, all_none _, pass_none _ _ _ c.requires.2 c.requires.3, λ h. border-start _ _)

pub pass_next-q-requires : goal.pass_next-q-requires
pass_next-q-requires c = (search rules, search rules, search rules, c.loop-p.invariant.3 c.loop-p-test.true)

pub returns-then-q-p-clause-answer : goal.returns-then-q-p-clause-answer
unfolding rule2
returns-then-q-p-clause-answer c = sym (c.pass_next-q.ensures.stops c.if-q-p.true)

pub returns-then-q-p-clause-counters : goal.returns-then-q-p-clause-counters
unfolding rule2
returns-then-q-p-clause-counters c = λ z. absurd (false≢true z)

pub loop-p-smaller : goal.loop-p-smaller
loop-p-smaller c = let S = c.pass_next-q.ensures in omega (arith, S.low, S.high)

pub loop-p-preserved : goal.loop-p-preserved
loop-p-preserved c = let l = c.loop-p in
    let S = c.pass_next-q.ensures in
    (S.high, all_steps _ _ _ _ _ _ S l.invariant.1, pass_steps _ _ _ _ _ _ S (omega (arith, S.low)) l.invariant.2, S.border (omega (arith, S.low)))

pub returns-clause-answer : goal.returns-clause-answer
unfolding rule2
returns-clause-answer c = all_done _ _ _ c.loop-p.invariant.0 c.loop-p-test.false c.loop-p.invariant.1

pub returns-clause-counters : goal.returns-clause-counters
unfolding rule2
returns-clause-counters c = λ _. pass_done _ _ _ _ c.loop-p.invariant.2 c.loop-p.invariant.0 c.loop-p-test.false
