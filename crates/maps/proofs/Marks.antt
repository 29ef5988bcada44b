-- A mark set or clear: it reads so, and nothing else in the pool changes.
use mathlib.Core.Path.{◌≡◌, ◌∙◌}
use mathlib.Core.Logic.{◌⊎◌, inl, inr, ⊎_elim, ◌≢◌}
use mathlib.Core.Bool.{Bool}
use mathlib.Core.List.{List}
use Prim.Native.Nat.{ℕ, ◌+◌, ◌*◌, ◌/◌, ◌%◌, ◌<◌, ◌≤◌}
use native.Mathlib.Omega.{arith}
use lib.ListN.{get_or, set, length, length-set}
use lib.Seq.{get_or-set_same, get_or-set_other, set-get_or, set_out, set-set}
use Rattle.base.proofs.Cases.{eq?, lt?}
use Rattle.words.specs.Word.{Bytes}
use Rattle.maps.specs.Bitmap.{bit_of, mark, with_bit, with_mark}
use Rattle.maps.proofs.Bits.{with_bit-small, with_bit_same, with_bit_other, with_bit_id, with_bit_twice}

-- mark 8 j + i is bit i of byte j
pub mark_at_lem : (s : List ℕ) (base j i : ℕ) → i < 8 → mark s base (8 * j + i) ≡ bit_of (get_or s (base + j) 0) i
unfolding mark
mark_at_lem s base j i h =
    let d : (8 * j + i) / 8 ≡ j = omega arith in
    let r : (8 * j + i) % 8 ≡ i = omega arith in
    rw (d, r)

-- mark i is mark i % 64 of its word
module _ (s : List ℕ) (k i : ℕ) where
  abbrev here : ℕ
  here = 8 * (k + i / 64)

  same_byte : here + i % 64 / 8 ≡ 8 * k + i / 8
  same_byte = omega arith

  same_bit : i % 64 % 8 ≡ i % 8
  same_bit = omega arith

  pub mark_in-word : mark s here (i % 64) ≡ mark s (8 * k) i
  unfolding mark
  mark_in-word = rw (same_byte, same_bit)

  pub with_mark_in_word : (v : Bool) → with_mark s here (i % 64) v ≡ with_mark s (8 * k) i v
  unfolding with_mark
  with_mark_in_word v = rw (same_byte, same_bit)

-- a mark asks only its byte
pub mark_byte : (s t : List ℕ) (a b i : ℕ) → get_or s (a + i / 8) 0 ≡ get_or t (b + i / 8) 0 → mark s a i ≡ mark t b i
unfolding mark
mark_byte s t a b i e = rw e

-- what the code reads and stores: b is the byte at p, where mark i lies
module _ (s : List ℕ) (base i p b : ℕ) (place : p ≡ base + i / 8) (read : b ≡ get_or s p 0) where
  pub mark-read : (r : Bool) → r ≡ bit_of b (i % 8) → r ≡ mark s base i
  unfolding mark
  mark-read r e = rw (← place, ← read) e

  pub mark-stored : (v : Bool) (x : ℕ) → x ≡ with_bit b (i % 8) v → set s p x ≡ with_mark s base i v
  unfolding with_mark
  mark-stored v x e = rw (← place, ← read, ← e)

module _ (s : List ℕ) (base i : ℕ) (v : Bool) where
  pub length-with_mark : length (with_mark s base i v) ≡ length s
  unfolding with_mark
  length-with_mark = length-set s _ _

  -- the bytes
  pub with_mark-outside : (j : ℕ) → j ≢ base + i / 8 → get_or (with_mark s base i v) j 0 ≡ get_or s j 0
  unfolding with_mark
  with_mark-outside j d = get_or-set_other s _ j _ 0 d

  with_mark-inside : base + i / 8 < length s → get_or (with_mark s base i v) (base + i / 8) 0 ≡ with_bit (get_or s (base + i / 8) 0) (i % 8) v
  unfolding with_mark
  with_mark-inside h = get_or-set_same s _ _ 0 h

  with_mark-past : length s ≤ base + i / 8 → with_mark s base i v ≡ s
  unfolding with_mark
  with_mark-past h = set_out s _ _ h

  pub with_mark-small : (j : ℕ) → get_or s j 0 < 256 → get_or (with_mark s base i v) j 0 < 256
  with_mark-small j h = go (eq? j (base + i / 8)) (lt? (base + i / 8) (length s))
    where
      go : (j ≡ base + i / 8) ⊎ (j ≢ base + i / 8) → (base + i / 8 < length s) ⊎ (length s ≤ base + i / 8) → get_or (with_mark s base i v) j 0 < 256
      go (inr d) l = rw (with_mark-outside j d) h
      go (inl e) (inl l) = rw (e, with_mark-inside l) (with_bit-small (get_or s (base + i / 8) 0) (i % 8) v)
      go (inl e) (inr l) = rw (with_mark-past l) h

  pub with_mark-bytes : Bytes s → Bytes (with_mark s base i v)
  with_mark-bytes B j = with_mark-small j (B j)

  -- the marks
  pub mark_same : base + i / 8 < length s → mark (with_mark s base i v) base i ≡ v
  unfolding mark
  mark_same h = rw (with_mark-inside h) (with_bit_same (get_or s (base + i / 8) 0) (i % 8) v (omega arith))

  -- a mark of this map or of another, in another byte
  pub mark-apart : (b k : ℕ) → b + k / 8 ≢ base + i / 8 → mark (with_mark s base i v) b k ≡ mark s b k
  mark-apart b k d = mark_byte (with_mark s base i v) s b b k (with_mark-outside (b + k / 8) d)

  pub mark_other : (k : ℕ) → k ≢ i → mark (with_mark s base i v) base k ≡ mark s base k
  mark_other k d = go (eq? (k / 8) (i / 8)) (lt? (base + i / 8) (length s))
    where
      go : (k / 8 ≡ i / 8) ⊎ (k / 8 ≢ i / 8) → (base + i / 8 < length s) ⊎ (length s ≤ base + i / 8) → mark (with_mark s base i v) base k ≡ mark s base k
      go (inr n) l = mark-apart base k (omega arith)
      go (inl e) (inr l) = rw (with_mark-past l)
      go (inl e) (inl l) =
          unfold mark in
          rw (e, with_mark-inside l) (with_bit_other (get_or s (base + i / 8) 0) (i % 8) (k % 8) v (omega arith) (omega arith))

  -- a mark written as it was
  pub with_mark_id : Bytes s → mark s base i ≡ v → with_mark s base i v ≡ s
  unfolding mark with_mark
  with_mark_id B e = rw (with_bit_id (get_or s (base + i / 8) 0) (i % 8) v (B (base + i / 8)) e) (set-get_or s (base + i / 8) 0)

-- the last value counts
pub with_mark_twice : (s : List ℕ) (base i : ℕ) (u v : Bool) → with_mark (with_mark s base i u) base i v ≡ with_mark s base i v
with_mark_twice s base i u v = ⊎_elim inside (λ l. rw (with_mark-past s base i u l)) (lt? (base + i / 8) (length s))
  where
    inside : base + i / 8 < length s → with_mark (with_mark s base i u) base i v ≡ with_mark s base i v
    inside l =
        unfold with_mark in
        rw (get_or-set_same s (base + i / 8) (with_bit (get_or s (base + i / 8) 0) (i % 8) u) 0 l, set-set, with_bit_twice (get_or s (base + i / 8) 0) (i % 8) u v (omega arith))

-- set and cleared, or cleared and set, the pool is as it was
pub with_mark-back : (s : List ℕ) (base i : ℕ) (u v : Bool) → Bytes s → mark s base i ≡ v → with_mark (with_mark s base i u) base i v ≡ s
with_mark-back s base i u v B e = with_mark_twice s base i u v ∙ with_mark_id s base i v B e
