-- The steps of the loop that looks for a run's first page.
use mathlib.Core.Path.{◌≡◌, refl}
use mathlib.Core.Bool.{Bool, true, false}
use mathlib.Core.List.{List}
use Prim.Native.Nat.{ℕ, zero, suc, ◌-◌, ◌≤◌, ◌<◌}
use native.Mathlib.Omega.{arith}
use lib.Dec.{eqb}
use borrow.Author.Rules.{rules}
use borrow.Author.Tests.{eq-eqb, ne_eqb}
use Rattle.base.specs.Tests.{pick}
use Rattle.records.specs.declared.Links.{Links}
use Rattle.records.specs.Page.{links_at}
use Rattle.free_all_try.specs.Mirror.{first_kind}

pub kind-start : (w : ℕ) (s : List ℕ) (i : ℕ) → first_kind w s i ≡ first_kind w s i
kind-start w s i = refl

pub kind_over : (w : ℕ) (s : List ℕ) (i x : ℕ) → i ≤ 0 → first_kind w s i ≡ x → 0 ≡ x
unfolding first_kind
kind_over w s zero x h e = e
kind_over w s (suc i) x h e = absurd (omega arith)

module _ (w : ℕ) (s : List ℕ) (x : ℕ) (l : Links) where
  step : (b : Bool) (i : ℕ) → 0 < i → l ≡ links_at w s (i - 1) → eqb l.kind 3 ≡ b → first_kind w s i ≡ x → pick b (i - 1) (first_kind w s (i - 1)) ≡ x
  unfolding first_kind
  step b zero h read k e = absurd (omega arith)
  step b (suc i) h read k e =
      let d : suc i - 1 ≡ i = omega arith in
      let r : l ≡ links_at w s i = rw d at read in
      rw d (rw (← r, k) at e)

  pub kind_here : (i : ℕ) → 0 < i → l ≡ links_at w s (i - 1) → l.kind ≡ 3 → first_kind w s i ≡ x → i - 1 ≡ x
  unfolding pick
  kind_here i h read k = step true i h read (eq-eqb l.kind 3 k)

  pub kind-next : (i : ℕ) → 0 < i → l ≡ links_at w s (i - 1) → (l.kind ≡ 3 → ⊥) → first_kind w s i ≡ x → first_kind w s (i - 1) ≡ x
  unfolding pick
  kind-next i h read k = step false i h read (ne_eqb l.kind 3 k)

pub ruleset kinds = (kind-start, kind_over, kind_here, kind-next, rules)
