-- The search for the lowest free chunk.
use mathlib.Core.Path.{◌≡◌, sym, ◌∙◌}
use mathlib.Core.Bool.{Bool, true, false, not}
use mathlib.Core.List.{List}
use Prim.Native.Nat.{ℕ, ◌+◌, ◌*◌, ◌≤◌, ◌<◌}
use native.Mathlib.Omega.{arith}
use lib.Dec.{eqb, ltb}
use lib.ListN.{length, get_or}
use borrow.Author.Tests.{lt-ltb}
use Rattle.base.specs.Tests.{pick}
use Rattle.base.specs.Search.{any}
use Rattle.base.proofs.Search.{least-is}
use Rattle.model.specs.Classes.{chunks, lowest, has_clear}
use Rattle.plain.specs.Plain.{mark_of}
use Rattle.plain.proofs.Loops.{get_d_past}

-- ---- one mark

module _ (b : List ℕ) (p c n i : ℕ) (inside : i < n) (is : n ≡ chunks c) where
  pub mark-read : not (eqb (get_or b (512 * p + i) 0) 0) ≡ mark_of b p c i
  unfolding mark_of pick
  mark-read = rw (lt-ltb i (chunks c) (omega arith))

  pub mark-none : length b ≤ 512 * p + i → false ≡ mark_of b p c i
  mark-none h = rw (← mark-read, get_d_past b (512 * p + i) 0 h)

-- ---- the search: every chunk before i is in use

pub record Passed (m : ℕ → Bool) (i : ℕ) : Type 0 where
  pub used : (j : ℕ) → j < i → m j ≡ true

module _ (m : ℕ → Bool) (i : ℕ) (before : Passed m i) where
  found_at : (c : ℕ) → i ≤ chunks c → (i < chunks c → m i ≡ false) → i ≡ lowest c m
  unfolding lowest
  found_at c l here = sym (least-is (λ j. not (m j)) (chunks c) i (record { at_most = l; before = λ j h. rw (before.used j h); passes = λ h. rw (here h) }))

  pub lowest_here : (c n : ℕ) → n ≡ chunks c → i < n → (t : Bool) → t ≡ m i → t ≡ false → i ≡ lowest c m
  lowest_here c n is l t e f = found_at c (omega arith) (λ h. sym e ∙ f)

  pub lowest-none : (c n : ℕ) → n ≡ chunks c → i ≤ n → n ≤ i → n ≡ lowest c m
  lowest-none c n is l h = let d : n ≡ i = omega arith in d ∙ found_at c (omega arith) (λ k. absurd (omega arith))

-- a chunk is free where the lowest is one
pub clear_found : (c n r : ℕ) (m : ℕ → Bool) → r ≡ lowest c m → n ≡ chunks c → ltb r n ≡ has_clear c m
unfolding lowest has_clear any
clear_found c n r m e f = rw (e, f)
