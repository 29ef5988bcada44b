use mathlib.Core.Path.{refl}
use Rattle.rules.specs.Bytes.{broken_rule}
use Rattle.validate.proofs.Answers.{pick-fails, few-pages, after_header}
use borrow.Author.Rules.{rules}
use Rattle.validate.proofs.broken_rule.Goals as goal

pub returns-then-not-header_fits : goal.returns-then-not-header_fits
unfolding broken_rule
returns-then-not-header_fits c = pick-fails _ _ _ _ c.header_fits.ensures c.if-not-header_fits.true refl

pub broken_page-requires : goal.broken_page-requires
broken_page-requires c = (c.page_count-n.ensures, few-pages c.args.w c.args.pool.now _ _ c.page_count-n.ensures c.header_fits.ensures c.if-not-header_fits.false)

pub returns : goal.returns
returns c = after_header c.args.w c.args.pool.now _ _ _ c.page_count-n.ensures c.header_fits.ensures c.if-not-header_fits.false c.broken_page.ensures
