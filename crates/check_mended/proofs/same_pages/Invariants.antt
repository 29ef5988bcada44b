use mathlib.Core.Path.{◌≡◌}
use mathlib.Core.Bool.{true}
use Rattle.base.specs.Tests.{all_below}
use Rattle.rules.specs.Bytes.{fields_of}
use Rattle.mending.specs.Checked.{same_page_at}
use Rattle.check_mended.proofs.same_pages.Given as goal

abbrev pub invariant-loop-p : goal.invariant-loop-p
invariant-loop-p l = all_below (same_page_at (fields_of l.w l.s) (fields_of l.w l.t)) l.p ≡ true
