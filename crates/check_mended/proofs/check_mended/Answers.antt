use mathlib.Core.Path.{refl, sym, ◌∙◌}
use borrow.Author.Tests.{not-false}
use Rattle.validate.proofs.Answers.{all-zero}
use Rattle.check_mended.proofs.Steps.{other_length, other_edition, beyond, unsound, shaped_room, by_comparison}
use borrow.Author.Rules.{rules}
use Rattle.check_mended.proofs.check_mended.Goals as goal

pub returns-then-damaged-mended : goal.returns-then-damaged-mended
returns-then-damaged-mended c = other_length c.args.w c.args.damaged.now c.args.mended.now c.if-damaged-mended.true

pub returns-then-not-same_edition : goal.returns-then-not-same_edition
returns-then-not-same_edition c = other_edition c.args.w c.args.damaged.now c.args.mended.now c.if-damaged-mended.false _ c.same_edition.ensures c.if-not-same_edition.true

pub shaped-requires : goal.shaped-requires
shaped-requires c = (c.page_count-n.ensures, refl, all-zero 11)

pub returns-then-not-shaped : goal.returns-then-not-shaped
returns-then-not-shaped c = beyond c.args.w c.args.damaged.now c.args.mended.now c.if-damaged-mended.false _ c.same_edition.ensures c.if-not-same_edition.false _
    c.shaped.ensures.answer c.if-not-shaped.true

pub returns-then-not-validate : goal.returns-then-not-validate
returns-then-not-validate c = unsound c.args.w c.args.damaged.now c.args.mended.now c.if-damaged-mended.false _ c.same_edition.ensures c.if-not-same_edition.false _
    c.shaped.ensures.answer c.if-not-shaped.false _ c.validate.ensures c.if-not-validate.true

pub compare-requires : goal.compare-requires
compare-requires c = let r = shaped_room c.args.w c.args.damaged.now _ c.page_count-n.ensures (sym c.shaped.ensures.answer ∙ c.if-not-shaped.false) in
    (c.page_count-n.ensures, r.0, r.1, c.if-damaged-mended.false)

pub returns : goal.returns
returns c = by_comparison c.args.w c.args.damaged.now c.args.mended.now c.if-damaged-mended.false _ c.same_edition.ensures c.if-not-same_edition.false _
    c.shaped.ensures.answer c.if-not-shaped.false _ c.validate.ensures c.if-not-validate.false _ c.compare.ensures
