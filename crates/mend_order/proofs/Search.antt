-- The steps of the two searches.
use mathlib.Core.Path.{◌≡◌, sym, ap, ◌∙◌}
use mathlib.Core.Bool.{Bool, true, false}
use Prim.Native.Nat.{ℕ, zero, suc, ◌+◌, ◌-◌, ◌≤◌, ◌<◌}
use native.Mathlib.Omega.{arith}
use Rattle.base.proofs.AllBelow.{pick_yes, pick_no}
use Rattle.records.specs.Layout.{no_page}
use Rattle.mending.specs.Mirror.{first_from, last_below}

module _ (q : ℕ → Bool) (x a : ℕ) (u : Bool) (e : u ≡ q a) where
  pub found_first : (k : ℕ) → 0 < k → u ≡ true → x ≡ first_from q a k → a ≡ x
  unfolding first_from
  found_first zero h t i = absurd (omega arith)
  found_first (suc k) h t i = sym (i ∙ pick_yes _ _ _ (sym e ∙ t))

  pub more_first : (k j : ℕ) → k ≡ suc j → u ≡ false → x ≡ first_from q a k → x ≡ first_from q (a + 1) j
  unfolding first_from
  more_first k j h t i = rw h at i ∙ pick_no _ _ _ (sym e ∙ t)

pub none_first : (q : ℕ → Bool) (x a k : ℕ) → k ≤ 0 → x ≡ first_from q a k → no_page ≡ x
unfolding first_from
none_first q x a zero h i = sym i
none_first q x a (suc k) h i = absurd (omega arith)

module _ (q : ℕ → Bool) (x : ℕ) (u : Bool) where
  pub found_last : (p : ℕ) → 0 < p → u ≡ q (p - 1) → u ≡ true → x ≡ last_below q p → p - 1 ≡ x
  unfolding last_below
  found_last zero h e t i = absurd (omega arith)
  found_last (suc p) h e t i =
      let z : suc p - 1 ≡ p = omega arith in
      z ∙ sym (i ∙ pick_yes _ _ _ (ap q (sym z) ∙ sym e ∙ t))

  pub more_last : (p : ℕ) → 0 < p → u ≡ q (p - 1) → u ≡ false → x ≡ last_below q p → x ≡ last_below q (p - 1)
  unfolding last_below
  more_last zero h e t i = absurd (omega arith)
  more_last (suc p) h e t i =
      let z : suc p - 1 ≡ p = omega arith in
      i ∙ pick_no _ _ _ (ap q (sym z) ∙ sym e ∙ t) ∙ ap (last_below q) (sym z)

pub none_last : (q : ℕ → Bool) (x p : ℕ) → p ≤ 0 → x ≡ last_below q p → no_page ≡ x
unfolding last_below
none_last q x zero h i = sym i
none_last q x (suc p) h i = absurd (omega arith)
