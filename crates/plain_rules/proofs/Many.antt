-- How many entries of a table pass a test.
use mathlib.Core.Path.{◌≡◌, refl, sym, ap, ◌∙◌}
use mathlib.Core.Logic.{inl, inr}
use mathlib.Core.Bool.{Bool, true, false}
use mathlib.Core.List.{List, [], ◌∷◌}
use Prim.Native.Nat.{ℕ, zero, suc, ◌+◌, ◌≤◌, ◌<◌}
use native.Mathlib.Nat.{zero-add}
use native.Mathlib.Omega.{arith}
use lib.ListN.{length, get_or}
use Rattle.std.proofs.Common.{cond}
use Rattle.std.proofs.lemmas.List.Recursion.{is_count_by}
use Rattle.std.specs.List.{count_by}
use Rattle.base.specs.Count.{bit}
use Rattle.base.specs.Lists.{Mem}
use Rattle.plain_rules.specs.Rules.{how_many}

module _ {A : Type 0} where
  pub mem-at : (t : List A) (i : ℕ) (d : A) → i < length t → Mem (get_or t i d) t
  mem-at [] i d h = absurd (omega arith)
  mem-at (x ∷ t) zero d h = inl refl
  mem-at (x ∷ t) (suc i) d h = inr (mem-at t i d (omega arith))

  pub at_mem : (x : A) (t : List A) (d : A) → Mem x t → (i : ℕ) × (i < length t) × (get_or t i d ≡ x)
  at_mem x (y ∷ t) d (inl e) = (0, omega arith, sym e)
  at_mem x (y ∷ t) d (inr m) = let (i, l, e) = at_mem x t d m in (suc i, omega arith, e)
  at_mem x [] d x'' = elim x'' [ ]

  module _ (q : A → Bool) where
    pub many_none : (t : List A) → ((x : A) → Mem x t → q x ≡ false) → how_many q t ≡ 0
    unfolding how_many
    many_none [] h = refl
    many_none (x ∷ t) h = rw (h x (inl refl)) (omega (arith, many_none t (λ y m. h y (inr m))))

    pub many_tail : (x : A) (t : List A) → how_many q t ≤ how_many q (x ∷ t)
    unfolding how_many
    many_tail x t = omega arith

    pub many_head : (x : A) (t : List A) → q x ≡ true → how_many q (x ∷ t) ≡ suc (how_many q t)
    unfolding how_many
    many_head x t e = rw e (omega arith)

    pub many_skip : (x : A) (t : List A) → q x ≡ false → how_many q (x ∷ t) ≡ how_many q t
    unfolding how_many
    many_skip x t e = rw e (omega arith)

    pub mem_many : (x : A) (t : List A) → Mem x t → q x ≡ true → 1 ≤ how_many q t
    mem_many x (y ∷ t) (inl e) f = omega (arith, many_head y t (ap q (sym e) ∙ f))
    mem_many x (y ∷ t) (inr m) f = omega (arith, many_tail y t, mem_many x t m f)
    mem_many x [] x3 f = elim x3 [ ]

    pub many_mem : (t : List A) → 1 ≤ how_many q t → (x : A) × Mem x t × (q x ≡ true)
    many_mem [] h = absurd (omega (arith, none))
      where
        none : how_many q [] ≡ 0
        none = unfold how_many in refl
    many_mem (x ∷ t) h = go (q x) refl (λ k. many_mem t k)
      where
        go : (b : Bool) → q x ≡ b → (1 ≤ how_many q t → (y : A) × Mem y t × (q y ≡ true)) → (y : A) × Mem y (x ∷ t) × (q y ≡ true)
        go true e ih = (x, inl refl, e)
        go false e ih = let (y, m, f) = ih (omega (arith, many_skip x t e)) in (y, inr m, f)

    -- std's word for it
    pub many_count : (t : List A) → how_many q t ≡ count_by q t
    unfolding how_many
    many_count t = is_count_by (how_many q) q refl (λ x xs. step (q x) (how_many q xs)) t
      where
        step : (b : Bool) (n : ℕ) → bit b + n ≡ cond b (1 + n) n
        step true n = refl
        step false n = zero-add n
