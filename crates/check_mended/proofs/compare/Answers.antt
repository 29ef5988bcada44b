use mathlib.Core.Path.{refl}
use Rattle.check_mended.proofs.Steps.{rest_differs, pages-differ, all_same}
use borrow.Author.Rules.{rules}
use Rattle.check_mended.proofs.compare.Goals as goal

pub returns-then-not-same_from : goal.returns-then-not-same_from
returns-then-not-same_from c = rest_differs c.args.w c.args.damaged.now c.args.mended.now c.args.n _ c.requires.0 refl _ c.same_from.ensures c.if-not-same_from.true

pub returns-then-not-same_pages : goal.returns-then-not-same_pages
returns-then-not-same_pages c = pages-differ c.args.w c.args.damaged.now c.args.mended.now c.args.n _ c.requires.0 refl _ c.same_from.ensures c.if-not-same_from.false _
    c.same_pages.ensures c.if-not-same_pages.true

pub returns : goal.returns
returns c = all_same c.args.w c.args.damaged.now c.args.mended.now c.args.n _ c.requires.0 refl _ c.same_from.ensures c.if-not-same_from.false _
    c.same_pages.ensures c.if-not-same_pages.false
