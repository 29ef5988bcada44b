use native.Mathlib.Omega.{arith}
use Rattle.report.proofs.Whole.{sound-image, report_does}
use Rattle.report.proofs.put_report.Goals as goal

pub put_listing-requires : goal.put_listing-requires
put_listing-requires c = (sound-image _ _ (λ i. (c.shared_slice_known-1.given i).fits) c.requires.0 c.requires.1 c.page_count-pages.ensures, omega (arith, c.put_line-first.ensures.2))

pub returns : goal.returns
returns c = report_does _ _ _ _ _ _ _ c.page_count-pages.ensures c.put_line-first.ensures c.put_listing.ensures
