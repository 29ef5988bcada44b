-- The search for the lowest clear mark, a way through its loops at a time, and what it finds.
use mathlib.Core.Path.{◌≡◌, refl, sym, ◌∙◌}
use mathlib.Core.Logic.{◌⊎◌, inl, inr, ⊎_elim}
use mathlib.Core.Bool.{Bool, true, false, not}
use mathlib.Core.List.{List}
use Prim.Native.Nat.{ℕ, ◌+◌, ◌-◌, ◌*◌, ◌%◌, ◌≤◌, ◌<◌}
use native.Mathlib.Omega.{arith}
use lib.Dec.{eqb}
use lib.ListN.{get_or}
use borrow.Author.Tests.{eqb-true, not-false}
use Rattle.base.specs.Search.{least, any}
use Rattle.base.specs.Tests.{pick}
use Rattle.base.proofs.Cases.{eq?, lt?}
use Rattle.base.proofs.Search.{least-is, any_false}
use Rattle.maps.specs.Bitmap.{bit_of, mark}
use Rattle.maps.specs.Mirror.{lowest_clear}
use Rattle.maps.proofs.Marks.{mark_at_lem}

-- ---- the code's search

full : (i : ℕ) → i < 8 → bit_of 255 i ≡ true
unfolding any least
full i h = not-false _ (any_false (λ k. not (bit_of 255 k)) 8 refl i h)

module _ (s : List ℕ) (base : ℕ) where
  -- the search has come to mark k: all before it are set
  unfoldable pub Passed : ℕ → Type 0
  Passed k = (i : ℕ) → i < k → mark s base i ≡ true

  -- it has stopped at k, of n marks
  pub record Stopped (n k : ℕ) : Type 0 where
    pub passed : (i : ℕ) → i < k → i < n → mark s base i ≡ true
    pub clear : k < n → mark s base k ≡ false

  pub search_start : Passed 0
  unfolding Passed
  search_start i h = absurd (omega arith)

  -- byte j, of which the first r marks are passed at once
  module _ (j b : ℕ) (read : b ≡ get_or s (base + j) 0) where
    pub byte_start : (r : ℕ) → r ≡ pick (eqb b 255) 8 0 → Passed (8 * j) → (r ≤ 8) × Passed (8 * j + r)
    unfolding Passed pick
    byte_start r e p = go (eqb b 255) refl e
      where
        go : (t : Bool) → eqb b 255 ≡ t → r ≡ pick t 8 0 → (r ≤ 8) × Passed (8 * j + r)
        go false d e = (omega arith, λ i h. p i (omega arith))
        go true d e = (omega arith, λ i h. within i h (lt? i (8 * j)))
          where
            within : (i : ℕ) → i < 8 * j + r → (i < 8 * j) ⊎ (8 * j ≤ i) → mark s base i ≡ true
            within i h (inl l) = p i l
            within i h (inr l) =
                let k : ℕ = i - 8 * j in
                let z : i ≡ 8 * j + k = omega arith in
                let f : get_or s (base + j) 0 ≡ 255 = sym read ∙ eqb-true b 255 d in
                rw (z, mark_at_lem s base j k (omega arith), f) (full k (omega arith))

    -- its bit i, as the code reads it
    module _ (i : ℕ) (h : i < 8) (u : Bool) (e : u ≡ bit_of b (i % 8)) where
      here : mark s base (8 * j + i) ≡ u
      here =
          let r : i % 8 ≡ i = omega arith in
          mark_at_lem s base j i h ∙ rw (← read) (sym (rw r at e))

      pub bit-set : Passed (8 * j + i) → u ≡ true → Passed (8 * j + (i + 1))
      unfolding Passed
      bit-set p d k l = ⊎_elim (λ z. rw z (here ∙ d)) (λ z. p k (omega arith)) (eq? k (8 * j + i))

      pub bit_clear : (n : ℕ) → Passed (8 * j + i) → u ≡ false → Stopped n (8 * j + i)
      unfolding Passed
      bit_clear n p d = record { passed = λ k l m. p k l; clear = λ l. here ∙ d }

  pub byte_done : (j i : ℕ) → i ≤ 8 → 8 ≤ i → Passed (8 * j + i) → Passed (8 * (j + 1))
  unfolding Passed
  byte_done j i h k p t l = p t (omega arith)

  pub search_done : (n j : ℕ) → n ≤ 8 * j → Passed (8 * j) → Stopped n n
  unfolding Passed
  search_done n j h p = record { passed = λ i l m. p i (omega arith); clear = λ l. absurd (omega arith) }

  -- what is found
  pub search_hit : (n k : ℕ) → Stopped n k → k < n → k ≡ lowest_clear s base n
  unfolding lowest_clear
  search_hit n k t h =
      sym
      (least-is (λ i. not (mark s base i)) n k
      (record { at_most = omega arith; before = λ i l. rw (t.passed i l (omega arith)); passes = λ l. rw (t.clear h) }))

  pub search_miss : (n k : ℕ) → Stopped n k → n ≤ k → n ≡ lowest_clear s base n
  unfolding lowest_clear
  search_miss n k t h =
      sym
      (least-is (λ i. not (mark s base i)) n n
      (record { at_most = omega arith; before = λ i l. rw (t.passed i (omega arith) l); passes = λ l. absurd (omega arith) }))
