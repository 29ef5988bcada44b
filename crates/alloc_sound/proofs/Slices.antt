-- What an alloc leaves: all but the peak, and then the peak, which no class has in edition 1.
use Rattle.std.proofs.Common.{◌≡◌, ℕ, ◌≤◌, Bool, true, false, eqb, leb, List, refl, ap, ◌∙◌, le-ltb}
use Rattle.base.specs.Tests.{pick}
use Rattle.base.proofs.AllBelow.{pick_no}
use Rattle.model.specs.Classes.{pages_for}
use Rattle.sizes.specs.Mirror.{class_for}
use Rattle.class_peaks.specs.Mirror.{peak_raised}
use Rattle.alloc_sound.specs.Mirror.{class_slice, small_slice, pages_slice, take_slice, peak_for, alloc_slice}

-- a change that comes after a choice, or in one arm of it
in_arm : (t u : Bool) (f : List ℕ → List ℕ) (s a b : List ℕ)
    → pick t (pick t s (pick u a b)) (pick u (f (pick t s (pick u a b))) (pick t s (pick u a b))) ≡ pick t s (pick u (f a) b)
unfolding pick
in_arm true u f s a b = refl
in_arm false true f s a b = refl
in_arm false false f s a b = refl

same_arms : (t u : Bool) (s : List ℕ) → s ≡ pick t s (pick u s s)
unfolding pick
same_arms true u s = refl
same_arms false true s = refl
same_arms false false s = refl

module _ (w : ℕ) (s : List ℕ) (P n : ℕ) where
  pub peak_follows : (u out : List ℕ) → u ≡ take_slice w s P n → out ≡ peak_for w u n → out ≡ alloc_slice w s P n
  unfolding take_slice peak_for small_slice alloc_slice
  peak_follows u out e q =
      q ∙ ap (λ (x : List ℕ). pick (eqb n 0) x (pick (leb n 2048) (peak_raised w x (class_for n)) x)) e
      ∙ in_arm (eqb n 0) (leb n 2048) (λ x. peak_raised w x (class_for n)) s (class_slice w s P (class_for n)) (pages_slice w s P (pages_for n))

pub no_peak : (w : ℕ) (s : List ℕ) (n : ℕ) → w ≤ 2 → s ≡ peak_for w s n
unfolding peak_for peak_raised
no_peak w s n h = rw (pick_no _ _ _ (le-ltb 2 w h)) (same_arms (eqb n 0) (leb n 2048) s)
