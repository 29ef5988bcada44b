-- The width that the first byte tells, from the test u on it.
use mathlib.Core.Path.{◌≡◌, sym, ◌∙◌}
use mathlib.Core.Bool.{Bool, true, false}
use mathlib.Core.List.{List}
use Prim.Native.Nat.{ℕ}
use lib.Dec.{eqb}
use lib.ListN.{get_or}
use Rattle.base.proofs.AllBelow.{pick_yes, pick_no}
use Rattle.demands.specs.Editions.{width_of}

module _ (s : List ℕ) (u : Bool) (e : u ≡ eqb (get_or s 0 0) 2) where
  pub second : u ≡ true → width_of s ≡ 3
  unfolding width_of
  second t = pick_yes _ _ _ (sym e ∙ t)

  pub first : u ≡ false → width_of s ≡ 2
  unfolding width_of
  first t = pick_no _ _ _ (sym e ∙ t)
