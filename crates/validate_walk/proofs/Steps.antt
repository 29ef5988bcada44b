-- One step of a walk, from the facts that the tests give.
use mathlib.Core.Path.{◌≡◌, refl, sym, ◌∙◌}
use mathlib.Core.Bool.{Bool, true, false}
use Prim.Native.Nat.{ℕ, zero, suc, ◌≤◌, ◌<◌}
use native.Mathlib.Omega.{arith}
use lib.Dec.{eqb}
use Rattle.base.specs.Tests.{pick}
use Rattle.records.specs.Layout.{no_page}
use Rattle.rules.specs.Rules.{linked}

-- X has come to page h from b with k pages to go
module _ (good : ℕ → Bool) (nx pv : ℕ → ℕ) {X : Bool} (b h k : ℕ) (i : X ≡ linked good nx pv k b h) where
  pub at_bad : 0 < k → (t : Bool) → t ≡ good h → t ≡ false → false ≡ X
  unfolding linked pick
  at_bad l t p q = sym (i ∙ go k l)
    where
      go : (j : ℕ) → 0 < j → linked good nx pv j b h ≡ false
      go zero l = absurd (omega arith)
      go (suc j) l = rw (sym p ∙ q)

  pub at_back : 0 < k → (t u : Bool) → t ≡ good h → t ≡ true → u ≡ eqb (pv h) b → u ≡ false → false ≡ X
  unfolding linked pick
  at_back l t u p q r e = sym (i ∙ go k l)
    where
      go : (j : ℕ) → 0 < j → linked good nx pv j b h ≡ false
      go zero l = absurd (omega arith)
      go (suc j) l = rw (sym p ∙ q, sym r ∙ e)

  pub at_on : (m : ℕ) → k ≡ suc m → (t u : Bool) (h' : ℕ) → t ≡ good h → t ≡ true → u ≡ eqb (pv h) b → u ≡ true → h' ≡ nx h → X ≡ linked good nx pv m h h'
  unfolding linked pick
  at_on m l t u h' p q r e x = i ∙ rw (l, sym p ∙ q, sym r ∙ e, x)

  pub at-end : k ≤ 0 → eqb h no_page ≡ X
  unfolding linked
  at-end l = sym (i ∙ go k l)
    where
      go : (j : ℕ) → j ≤ 0 → linked good nx pv j b h ≡ eqb h no_page
      go zero l = refl
      go (suc j) l = absurd (omega arith)
