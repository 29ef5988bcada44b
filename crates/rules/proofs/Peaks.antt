-- Rule 6 of the peaks, as a test and in plain form.
use mathlib.Core.Path.{◌≡◌}
use mathlib.Core.Logic.{◌↔◌}
use mathlib.Core.Bool.{true}
use mathlib.Core.List.{List}
use Prim.Native.Nat.{ℕ}
use borrow.Author.Tests.{lt-ltb, ltb-true, le-leb, leb-true, eq-eqb, eqb-true}
use Rattle.base.proofs.Tests.{both_true}
use Rattle.base.proofs.AllBelow.{pick-both, asked, if_asked, all-at, at_all}
use Rattle.rules.specs.Rules.{rule6}
use Rattle.rules.specs.Bytes.{pages_in, fields_of, peak_fits, peaks_fit, counts_and_peaks}
use Rattle.rules.specs.Plain.{Rule6, Peaks}
use Rattle.rules.proofs.Rules.{rule6_iff}

module _ (w : ℕ) (s : List ℕ) where
  pub peaks_iff : (peaks_fit w s ≡ true) ↔ Peaks w s
  unfolding peaks_fit peak_fits
  peaks_iff = (
    λ e. record {
      high = λ deep c h. leb-true _ _ (both_true _ _ (all-at (peak_fits w s) 9 (asked _ _ e (lt-ltb 2 w deep)) c h)).0;
      spare = λ deep c h. eqb-true _ _ (both_true _ _ (all-at (peak_fits w s) 9 (asked _ _ e (lt-ltb 2 w deep)) c h)).1;
    },
    λ R. if_asked _ _ (λ deep. at_all (peak_fits w s) 9 (λ c h.
        pick-both _ _ (le-leb _ _ (R.high (ltb-true 2 w deep) c h)) (eq-eqb _ _ (R.spare (ltb-true 2 w deep) c h)))),
  )

  pub counts_and_peaks_iff : (counts_and_peaks w s ≡ true) ↔ (Rule6 (fields_of w s) (pages_in w s) × Peaks w s)
  unfolding counts_and_peaks
  counts_and_peaks_iff =
      let six = rule6_iff (fields_of w s) (pages_in w s) in (
        λ e. let x = both_true (rule6 (fields_of w s) (pages_in w s)) (peaks_fit w s) e in (six.0 x.0, peaks_iff.0 x.1),
        λ x. pick-both _ _ (six.1 x.0) (peaks_iff.1 x.1),
      )
