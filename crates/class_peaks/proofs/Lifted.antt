-- The peak of a class's tally, raised while no chunk is taken, is the larger of the peak and used.
use mathlib.Core.Path.{◌≡◌, refl, sym, ap, ◌∙◌}
use mathlib.Core.Bool.{Bool, true, false}
use mathlib.Core.List.{List}
use Prim.Native.Nat.{ℕ, ◌+◌, ◌%◌, ◌<◌}
use native.Mathlib.Omega.{arith}
use lib.Dec.{ltb}
use borrow.Author.Tests.{le-ltb}
use Rattle.base.specs.Tests.{pick}
use Rattle.base.proofs.AllBelow.{pick_yes, pick_no}
use Rattle.words.specs.Word.{word}
use Rattle.records.specs.Layout.{counts_place}
use Rattle.records.specs.Class.{unpack_class, class_at, peak_at}
use Rattle.class_counting.specs.declared.Tally.{Tally}
use Rattle.class_counting.specs.Mirror.{counts_more, used_in, raised_by}
use Rattle.class_peaks.specs.Mirror.{lifted_to, peak_lifted}

module _ (w : ℕ) (s : List ℕ) (c : ℕ) where
  larger_lifts : (p u : ℕ) → lifted_to w s c p (pick (ltb p u) u p) ≡ lifted_to w s c p u
  unfolding lifted_to
  larger_lifts p u = go (ltb p u) refl
    where
      go : (z : Bool) → ltb p u ≡ z → lifted_to w s c p (pick (ltb p u) u p) ≡ lifted_to w s c p u
      go true e = ap (λ (x : ℕ). lifted_to w s c p x) (pick_yes (ltb p u) u p e)
      go false e = ap (λ (x : ℕ). lifted_to w s c p x) (pick_no (ltb p u) u p e) ∙ pick_no (ltb p p) _ _ (le-ltb p p (omega arith)) ∙ sym (pick_no (ltb p u) _ _ e)

  same : (p u : ℕ) → u ≡ (class_at w s c).used → lifted_to w s c p (pick (ltb p u) u p) ≡ lifted_to w s c p (class_at w s c).used
  same p u e = larger_lifts p u ∙ ap (λ (x : ℕ). lifted_to w s c p x) e

  pub lifted-tally : (p k x : ℕ) → p ≡ peak_at w s c → k ≡ counts_place w c → x < 18446744073709551616 → x ≡ word s k → (t : Tally)
      → t ≡ raised_by 0 false false (record { counts = x; asks = 0; peak = p }) → (s' : List ℕ) → s' ≡ lifted_to w s c p t.peak → s' ≡ peak_lifted w s c
  unfolding peak_lifted class_at unpack_class raised_by counts_more used_in
  lifted-tally p k x hp hk small hx t r s' f =
      let e : (x + 0) % 18446744073709551616 ≡ x = omega arith in
      let used : used_in (counts_more 0 x) ≡ (class_at w s c).used = ap used_in (e ∙ hx ∙ ap (λ (i : ℕ). word s i) hk) in
      f ∙ ap (λ (u : Tally). lifted_to w s c p u.peak) r ∙ same p (used_in (counts_more 0 x)) used ∙ ap (λ (y : ℕ). lifted_to w s c y (class_at w s c).used) hp
