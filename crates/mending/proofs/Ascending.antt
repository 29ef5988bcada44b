-- Numbers in rising order, those of them that pass a test, and runs by their first pages.
use mathlib.Core.Path.{◌≡◌}
use mathlib.Core.Logic.{◌⊎◌, inl, inr}
use mathlib.Core.Bool.{Bool, true, false, cond}
use mathlib.Core.List.{List, [], ◌∷◌}
use Prim.Native.Nat.{ℕ, zero, suc, ◌+◌, ◌≤◌, ◌<◌}
use native.Mathlib.Omega.{arith}
use Rattle.base.specs.Lists.{Mem, NoDup, keep}
use Rattle.base.proofs.Cases.{eq?}
use Rattle.rules.specs.Read.{with_lengths}
use Rattle.mending.specs.Remade.{up_from}
use Rattle.mending.specs.Claim.{Ascending, RunsAscend}

up_mem : (a k p : ℕ) → a ≤ p → p < a + k → Mem p (up_from a k)
up_mem a zero p l u = absurd (omega arith)
up_mem a (suc k) p l u = go (eq? p a) (up_mem (suc a) k p)
  where
    go : (p ≡ a) ⊎ (p ≡ a → ⊥) → (suc a ≤ p → p < suc a + k → Mem p (up_from (suc a) k)) → Mem p (up_from a (suc k))
    go (inl e) ih = inl e
    go (inr e) ih = inr (ih (omega arith) (omega arith))

pub mem_up : (k p : ℕ) → p < k → Mem p (up_from 0 k)
mem_up k p h = up_mem 0 k p (omega arith) (omega arith)

weaker : (a b : ℕ) (ps : List ℕ) → a ≤ b → Ascending b ps → Ascending a ps
weaker a b [] l h = tt
weaker a b (p ∷ ps) l h = (omega (arith, h.0), h.1)

pub up_ascends : (a k : ℕ) → Ascending a (up_from a k)
up_ascends a zero = tt
up_ascends a (suc k) = (omega arith, up_ascends (suc a) k)

pub keep_ascends : (q : ℕ → Bool) (a : ℕ) (ps : List ℕ) → Ascending a ps → Ascending a (keep q ps)
keep_ascends q a [] h = tt
keep_ascends q a (p ∷ ps) h = go (q p) (keep_ascends q (suc p) ps h.1)
  where
    go : (t : Bool) → Ascending (suc p) (keep q ps) → Ascending a (cond t (p ∷ keep q ps) (keep q ps))
    go true ih = (h.0, ih)
    go false ih = weaker a (suc p) (keep q ps) (omega (arith, h.0)) ih

above : (a p : ℕ) (ps : List ℕ) → Ascending a ps → Mem p ps → a ≤ p
above a p (x ∷ ps) h (inl e) = omega (arith, h.0)
above a p (x ∷ ps) h (inr m) = omega (arith, h.0, above (suc x) p ps h.1 m)
above a p [] h x'' = elim x'' [ ]

pub ascends_once : (a : ℕ) (ps : List ℕ) → Ascending a ps → NoDup ps
ascends_once a [] h = tt
ascends_once a (p ∷ ps) h = (λ m. let l : suc p ≤ p = above (suc p) p ps h.1 m in omega arith, ascends_once (suc p) ps h.1)

-- ---- runs by their first pages
pub runs_ascend : (len : ℕ → ℕ) (a : ℕ) (ps : List ℕ) → Ascending a ps → RunsAscend a (with_lengths len ps)
runs_ascend len a [] h = tt
runs_ascend len a (p ∷ ps) h = (h.0, runs_ascend len (suc p) ps h.1)
