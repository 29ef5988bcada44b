-- The laws of the numbers of two, four and eight bytes, and of the words of a list.
use mathlib.Core.Path.{◌≡◌, refl, sym, ◌∙◌}
use mathlib.Core.Bool.{Bool, true, false}
use mathlib.Core.Logic.{◌⊎◌, inl, inr, ⊎_elim, ◌≢◌}
use mathlib.Core.List.{List}
use Prim.Native.Nat.{ℕ, ◌+◌, ◌*◌, ◌/◌, ◌≤◌, ◌<◌}
use native.Mathlib.Omega.{arith}
use lib.ListN.{get_or, length}
use lib.Dec.{lit<, ltb}
use borrow.Author.Tests.{lt-ltb, le-ltb, ltb-true, ltb-false}
use Rattle.base.specs.Tests.{pick}
use Rattle.words.specs.Word.{Bytes, pair_at, half_at, word_at, with_pair, with_half, with_word, word, set_word}
use Rattle.words.proofs.Cell.{Cell, Off, one, double, other}

pub pairs : Cell 2 65536 pair_at with_pair
pairs = double one (lit< tt)

pub halves : Cell 4 4294967296 half_at with_half
unfolding with_half
halves = double pairs (lit< tt)

pub words : Cell 8 18446744073709551616 word_at with_word
unfolding with_word
words = double halves (lit< tt)

-- ---- words by their number
pub word_in : (s : List ℕ) (k : ℕ) → k < length s / 8 → word s k ≡ word_at s (8 * k)
unfolding word pick
word_in s k h = rw (lt-ltb k (length s / 8) h)

pub word_out : (s : List ℕ) (k : ℕ) → length s / 8 ≤ k → word s k ≡ 0
unfolding word pick
word_out s k h = rw (le-ltb k (length s / 8) h)

pub set_in : (s : List ℕ) (k v : ℕ) → k < length s / 8 → set_word s k v ≡ with_word s (8 * k) v
unfolding set_word pick
set_in s k v h = rw (lt-ltb k (length s / 8) h)

pub set_out : (s : List ℕ) (k v : ℕ) → length s / 8 ≤ k → set_word s k v ≡ s
unfolding set_word pick
set_out s k v h = rw (le-ltb k (length s / 8) h)

-- a word is there or it is not
pub here? : (s : List ℕ) (k : ℕ) → (k < length s / 8) ⊎ (length s / 8 ≤ k)
here? s k = go (ltb k (length s / 8)) refl
  where
    go : (t : Bool) → ltb k (length s / 8) ≡ t → (k < length s / 8) ⊎ (length s / 8 ≤ k)
    go true e = inl (ltb-true _ _ e)
    go false e = inr (ltb-false _ _ e)

pub length-set_word : (s : List ℕ) (k v : ℕ) → length (set_word s k v) ≡ length s
length-set_word s k v =
    ⊎_elim (λ h. rw (set_in s k v h) (words.len s _ v)) (λ h. rw (set_out s k v h)) (here? s k)

pub word-set_same : (s : List ℕ) (k v : ℕ) → k < length s / 8 → word (set_word s k v) k ≡ v
word-set_same s k v h =
    word_in (set_word s k v) k (rw length-set_word h) ∙ rw (set_in s k v h) (words.same s (8 * k) v (omega arith))

pub word-set_other : (s : List ℕ) (j k v : ℕ) → k ≢ j → word (set_word s j v) k ≡ word s k
word-set_other s j k v ne = ⊎_elim inside past (here? s j)
  where
    apart : (8 * k + 8 ≤ 8 * j) ⊎ (8 * j + 8 ≤ 8 * k)
    apart = go (ltb k j) refl
      where
        go : (t : Bool) → ltb k j ≡ t → (8 * k + 8 ≤ 8 * j) ⊎ (8 * j + 8 ≤ 8 * k)
        go true e = inl (omega (arith, ltb-true k j e))
        go false e = inr (omega (arith, ltb-false k j e))

    inside : j < length s / 8 → word (set_word s j v) k ≡ word s k
    inside hj =
        ⊎_elim
        (λ h. word_in (set_word s j v) k (rw length-set_word h) ∙ rw (set_in s j v hj) (other words s (8 * k) (8 * j) v apart) ∙ sym (word_in s k h))
        (λ h. word_out (set_word s j v) k (rw length-set_word h) ∙ sym (word_out s k h))
        (here? s k)

    past : length s / 8 ≤ j → word (set_word s j v) k ≡ word s k
    past hj = rw (set_out s j v hj)

pub set_word-outside : (s : List ℕ) (k v i : ℕ) → Off 8 (8 * k) i → get_or (set_word s k v) i 0 ≡ get_or s i 0
set_word-outside s k v i d =
    ⊎_elim (λ h. rw (set_in s k v h) (words.outside s _ v i d)) (λ h. rw (set_out s k v h)) (here? s k)

pub word_small : (s : List ℕ) (k : ℕ) → Bytes s → word s k < 18446744073709551616
word_small s k B =
    ⊎_elim (λ h. rw (word_in s k h) (words.small s _ B)) (λ h. rw (word_out s k h) (lit< tt)) (here? s k)

pub set_word-back : (s : List ℕ) (k : ℕ) → Bytes s → set_word s k (word s k) ≡ s
set_word-back s k B =
    ⊎_elim (λ h. rw (set_in s k (word s k) h, word_in s k h) (words.back s _ B)) (λ h. set_out s k _ h) (here? s k)

pub set_word-keeps : (s : List ℕ) (k v : ℕ) → Bytes s → v < 18446744073709551616 → Bytes (set_word s k v)
set_word-keeps s k v B h =
    ⊎_elim (λ p. rw (set_in s k v p) (words.keeps s _ v B h)) (λ p. rw (set_out s k v p) B) (here? s k)
