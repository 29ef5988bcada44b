use mathlib.Core.Path.{refl, sym, ◌∙◌}
use borrow.Author.Tests.{not-false}
use Rattle.rules.proofs.Rule2.{rule2-shape}
use Rattle.validate.specs.Mirror.{from_rule2}
use Rattle.validate.proofs.Answers.{all-zero, pick-fails, pick_passes}
use Rattle.validate.proofs.broken_page.Goals as goal

pub scan-requires : goal.scan-requires
scan-requires c = (c.requires.0, c.requires.1, refl, all-zero 11)

pub returns-then-not-scan : goal.returns-then-not-scan
unfolding from_rule2
returns-then-not-scan c = pick-fails _ _ _ _ c.scan.ensures.answer c.if-not-scan.true refl

pub broken_list_or_count-requires : goal.broken_list_or_count-requires
broken_list_or_count-requires c = let k = c.scan.ensures in let t = c.if-not-scan.false in record { pages = c.requires.0; most = c.requires.1; fits = rule2-shape _ _ (sym k.answer ∙ t); counted = k.counters t }

pub returns : goal.returns
unfolding from_rule2
returns c = pick_passes _ _ _ _ c.scan.ensures.answer c.if-not-scan.false c.broken_list_or_count.ensures
