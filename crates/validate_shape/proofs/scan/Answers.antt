use mathlib.Core.Bool.{false≢true}
use native.Mathlib.Omega.{arith}
use Rattle.rules.specs.Rules.{shape}
use Rattle.branchless.proofs.Loops.{all_none, all_more, all-fails, all_done}
use Rattle.validate_pages.proofs.Pass.{pass_none, pass_more, pass_done}
use Rattle.validate_shape.proofs.Passing.{links_are, class_ok}
use Rattle.validate_shape.proofs.scan.Goals as goal

pub loop-p-init : goal.loop-p-init
loop-p-init c = (all_none _, pass_none _ _ _ c.requires.2 c.requires.3)

pub returns-then-not-page_shaped-clause-answer : goal.returns-then-not-page_shaped-clause-answer
unfolding shape
returns-then-not-page_shaped-clause-answer c = all-fails _ _ _ _ c.loop-p-test.true c.page_shaped.ensures c.if-not-page_shaped.true

pub returns-then-not-page_shaped-clause-counters : goal.returns-then-not-page_shaped-clause-counters
unfolding shape
returns-then-not-page_shaped-clause-counters c = λ z. absurd (false≢true z)

pub add_page-requires : goal.add_page-requires
add_page-requires c = (c.requires.0, c.loop-p-test.true, omega (arith, c.requires.1), class_ok c.args.w c.args.pool.now c.args.n _ _ _ c.page_shaped.ensures c.if-not-page_shaped.false c.packed_links-v.ensures)

pub loop-p-preserved : goal.loop-p-preserved
loop-p-preserved c = let v = c.loop-p.invariant in
    let fits = c.page_shaped.ensures in
    let on = c.if-not-page_shaped.false in (
      all_more _ _ _ fits on v.0,
      pass_more c.args.w c.args.pool.now c.args.n _ (λ i. (c.shared_slice_known-1.given i).fits) c.requires.0 c.requires.1 c.loop-p-test.true _ fits on _ _ _ v.1
          (links_are c.args.w c.args.pool.now _ _ c.packed_links-v.ensures) c.add_page.ensures,
    )

pub returns-clause-answer : goal.returns-clause-answer
unfolding shape
returns-clause-answer c = all_done _ _ _ (omega arith) c.loop-p-test.false c.loop-p.invariant.0

pub returns-clause-counters : goal.returns-clause-counters
unfolding shape
returns-clause-counters c = λ _. pass_done _ _ _ _ c.loop-p.invariant.1 (omega arith) c.loop-p-test.false
