use Rattle.std.proofs.Common.{arith}
use Rattle.validate_pages.proofs.Runs.{class_in, class-stays, class_steps}
use Rattle.validate_pages.proofs.pass_class.Goals as goal

pub returns-then-not-class_page : goal.returns-then-not-class_page
returns-then-not-class_page c = class-stays c.requires.0 (λ i. (c.shared_slice_known-1.given i).fits) _ _ _ c.requires.1 c.class_page.ensures c.if-not-class_page.true

pub add_class-requires : goal.add_class-requires
add_class-requires c = let H = c.requires.0 in (H.pages, H.below, omega (arith, H.few), class_in H (λ i. (c.shared_slice_known-1.given i).fits) c.args.t.now _ c.class_page.ensures c.if-not-class_page.false)

pub returns : goal.returns
returns c = class_steps c.requires.0 (λ i. (c.shared_slice_known-1.given i).fits) _ _ _ c.requires.1 c.class_page.ensures c.if-not-class_page.false c.add_class.ensures
