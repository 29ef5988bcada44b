use mathlib.Core.Path.{sym, ◌∙◌}
use mathlib.Core.Bool.{false≢true}
use borrow.Author.Tests.{not-false}
use Rattle.check_mended.proofs.Steps.{header_fails, few, shape-fails, shaped-by}
use borrow.Author.Rules.{rules}
use Rattle.check_mended.proofs.shaped.Goals as goal

pub returns-then-not-header_fits-clause-answer : goal.returns-then-not-header_fits-clause-answer
returns-then-not-header_fits-clause-answer c = header_fails c.args.w c.args.pool.now c.args.n c.requires.0 _ c.header_fits.ensures c.if-not-header_fits.true

pub returns-then-not-header_fits-clause-counters : goal.returns-then-not-header_fits-clause-counters
returns-then-not-header_fits-clause-counters c = λ z. absurd (false≢true z)

pub scan-requires : goal.scan-requires
scan-requires c = (c.requires.0, few c.args.w c.args.pool.now c.args.n c.requires.0 _ c.header_fits.ensures c.if-not-header_fits.false, c.requires.1, c.requires.2)

pub returns-then-not-scan-clause-answer : goal.returns-then-not-scan-clause-answer
returns-then-not-scan-clause-answer c = shape-fails c.args.w c.args.pool.now c.args.n c.requires.0 _ c.header_fits.ensures c.if-not-header_fits.false _ c.scan.ensures.answer c.if-not-scan.true

pub returns-then-not-scan-clause-counters : goal.returns-then-not-scan-clause-counters
returns-then-not-scan-clause-counters c = λ z. absurd (false≢true z)

pub in_use-requires : goal.in_use-requires
in_use-requires c = let k = c.scan.ensures in
    let t = c.if-not-scan.false in
    record {
      pages = c.requires.0;
      most = few c.args.w c.args.pool.now c.args.n c.requires.0 _ c.header_fits.ensures c.if-not-header_fits.false;
      fits = sym k.answer ∙ t;
      counted = k.counters t;
    }

pub returns-clause-answer : goal.returns-clause-answer
returns-clause-answer c = let k = c.scan.ensures in
    let f = c.if-not-scan.false in
    let t = f in
    shaped-by c.args.w c.args.pool.now c.args.n c.requires.0 _ c.header_fits.ensures c.if-not-header_fits.false _ k.answer f _ c.in_use.ensures

pub returns-clause-counters : goal.returns-clause-counters
returns-clause-counters c = let k = c.scan.ensures in
    let f = c.if-not-scan.false in
    let t = f in
    λ z. record {
      pages = c.requires.0;
      most = few c.args.w c.args.pool.now c.args.n c.requires.0 _ c.header_fits.ensures c.if-not-header_fits.false;
      fits = sym k.answer ∙ t;
      counted = k.counters t;
    }
