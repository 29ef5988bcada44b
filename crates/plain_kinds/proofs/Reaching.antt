-- A loop that looks for a number below n that passes a test; bounds of the map's own chunks.
use mathlib.Core.Path.{◌≡◌, sym, ap, ◌∙◌}
use mathlib.Core.Logic.{◌⊎◌, inl, inr}
use mathlib.Core.Bool.{Bool, true, false}
use Prim.Native.Nat.{ℕ, ◌+◌, ◌≤◌, ◌<◌}
use native.Mathlib.Omega.{arith}
use mathlib.Core.List.{List}
use lib.ListN.{get_or}
use Rattle.base.specs.Search.{any}
use Rattle.base.proofs.Cases.{clash, lt?, decided}
use Rattle.base.proofs.Search.{any_some, any_false, any_at}
use Rattle.model.specs.Classes.{chunks, own}
use Rattle.model.proofs.Classes.{own-few}
use Rattle.plain.specs.Plain.{free_entry}
use Rattle.plain.specs.declared.PageEntry.{PageEntry}
use Rattle.plain_rules.specs.Rules.{run_reaches}
use Rattle.plain_counts.proofs.Counting.{count_most}

module _ (t : ℕ → Bool) where
  pub any_none : any t 0 ≡ false
  any_none = decided (any t 0) (λ h. let (i, l, e) = any_some t 0 h in omega arith)

  pub any_more : (i : ℕ) (u : Bool) → u ≡ t i → u ≡ false → any t i ≡ false → any t (i + 1) ≡ false
  any_more i u e f a = decided (any t (i + 1)) (λ h. let (j, l, k) = any_some t (i + 1) h in at j l k (lt? j i))
    where
      at : (j : ℕ) → j < i + 1 → t j ≡ true → (j < i) ⊎ (i ≤ j) → ⊥
      at j l k (inl h) = clash k (any_false t i a j h)
      at j l k (inr h) = let d : j ≡ i = omega arith in clash k (ap t d ∙ sym e ∙ f)

  pub any_hit : (n i : ℕ) (u : Bool) → i < n → u ≡ t i → u ≡ true → true ≡ any t n
  any_hit n i u l e f = sym (any_at t n i l (sym e ∙ f))

  pub any-done : (n i : ℕ) → i ≤ n → n ≤ i → any t i ≡ false → false ≡ any t n
  any-done n i l h a = let d : i ≡ n = omega arith in sym (ap (any t) (sym d) ∙ a)

pub ruleset anys = (any_none, any_more, any_hit, any-done)

pub own_fits : (c first n : ℕ) → c ≤ 8 → first ≡ own c → n ≡ chunks c → first ≤ n
own_fits c first n h e f = omega (arith, own-few c h)

pub ruleset own_bounds = (count_most, own_fits)

-- a run that reaches page p, found in the table
pub reaches_at : (p q : ℕ) (t : List PageEntry) (e : PageEntry) (u : Bool) → e ≡ get_or t q free_entry → u ≡ run_reaches p q e → u ≡ run_reaches p q (get_or t q free_entry)
reaches_at p q t e u d f = f ∙ ap (run_reaches p q) d
