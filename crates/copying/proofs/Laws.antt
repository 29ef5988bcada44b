-- Which bytes are laid, and which stay; and the steps of the loop.
use mathlib.Core.Path.{◌≡◌, refl, ◌∙◌}
use mathlib.Core.Logic.{◌⊎◌, inl, inr, ◌≢◌}
use mathlib.Core.List.{List}
use Prim.Native.Nat.{ℕ, zero, suc, ◌+◌, ◌-◌, ◌≤◌, ◌<◌}
use native.Mathlib.Numerals.{add-one}
use native.Mathlib.Omega.{arith}
use lib.ListN.{length, get_or, set, length-set}
use lib.Seq.{get_or-set_same, get_or-set_other}
use borrow.Author.Rules.{rules}
use Rattle.base.proofs.Cases.{eq?, Out, in?}
use Rattle.words.specs.Word.{Bytes}
use Rattle.copying.specs.Lay.{lay}

module _ (to from : ℕ) (s : List ℕ) where
  pub length-lay : (n : ℕ) (t : List ℕ) → length (lay to from s n t) ≡ length t
  unfolding lay
  length-lay zero t = refl
  length-lay (suc n) t = length-set (lay to from s n t) (to + n) _ ∙ length-lay n t

  pub lay-outside : (n : ℕ) (t : List ℕ) (i : ℕ) → Out to n i → get_or (lay to from s n t) i 0 ≡ get_or t i 0
  unfolding lay
  lay-outside zero t i o = refl
  lay-outside (suc n) t i o = get_or-set_other (lay to from s n t) (to + n) i _ 0 (apart o) ∙ lay-outside n t i (less o)
    where
      apart : Out to (suc n) i → i ≢ to + n
      apart (inl l) = omega arith
      apart (inr l) = omega arith

      less : Out to (suc n) i → Out to n i
      less (inl l) = inl l
      less (inr l) = inr (omega arith)

  pub lay-inside : (n : ℕ) (t : List ℕ) (i : ℕ) → i < n → to + n ≤ length t → get_or (lay to from s n t) (to + i) 0 ≡ get_or s (from + i) 0
  unfolding lay
  lay-inside (suc n) t i l room = go (eq? i n) (λ k. lay-inside n t i k (omega arith))
    where
      go : (i ≡ n) ⊎ (i ≢ n) → (i < n → get_or (lay to from s n t) (to + i) 0 ≡ get_or s (from + i) 0) → get_or (set (lay to from s n t) (to + n) (get_or s (from + n) 0)) (to + i) 0 ≡ get_or s (from + i) 0
      go (inl e) ih = rw e (get_or-set_same (lay to from s n t) (to + n) (get_or s (from + n) 0) 0 (rw (length-lay n t) (omega arith)))
      go (inr d) ih = get_or-set_other (lay to from s n t) (to + n) (to + i) _ 0 (λ e. d (omega arith)) ∙ ih (omega arith)
  lay-inside zero t i l room = elim l [ ]

  pub lay-bytes : (n : ℕ) (t : List ℕ) → to + n ≤ length t → Bytes s → Bytes t → Bytes (lay to from s n t)
  lay-bytes n t room B C i = go (in? to n i)
    where
      go : ((to ≤ i) × (i < to + n)) ⊎ Out to n i → get_or (lay to from s n t) i 0 < 256
      go (inl (a, b)) =
          let e : to + (i - to) ≡ i = omega arith in
          rw (← e) (rw (lay-inside n t (i - to) (omega arith) room) (B (from + (i - to))))
      go (inr o) = rw (lay-outside n t i o) (C i)

-- ---- the loop

pub lay-none : (to from : ℕ) (s t : List ℕ) → t ≡ lay to from s 0 t
unfolding lay
lay-none to from s t = refl

pub lay_one : (to from i : ℕ) (s t u v : List ℕ) → u ≡ lay to from s i t → v ≡ set u (to + i) (get_or s (from + i) 0) → v ≡ lay to from s (i + 1) t
unfolding lay
lay_one to from i s t u v e f = rw (add-one i) (f ∙ rw e)

pub lay-all : (to from i n : ℕ) (s t u : List ℕ) → u ≡ lay to from s i t → i ≤ n → n ≤ i → u ≡ lay to from s n t
lay-all to from i n s t u e a b = let d : i ≡ n = omega arith in rw (← d) e

pub ruleset lays = (lay-none, lay_one, lay-all, rules)
