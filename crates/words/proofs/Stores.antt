-- Stores into words: the later of two into one word stands, and stores into two words change places.
use mathlib.Core.Path.{◌≡◌, sym, ◌∙◌}
use mathlib.Core.Logic.{◌⊎◌, inl, inr, ⊎_elim, ◌≢◌}
use mathlib.Core.List.{List}
use Prim.Native.Nat.{ℕ, ◌+◌, ◌*◌, ◌/◌, ◌%◌, ◌≤◌, ◌<◌}
use native.Mathlib.Omega.{arith}
use lib.ListN.{set, length, length-set}
use lib.Seq.{set-set, set_comm}
use Rattle.base.proofs.Cases.{lt?}
use Rattle.words.specs.Word.{set_word, with_half, with_word}
use Rattle.words.proofs.Laws.{here?, set_in, set_out, length-set_word}

record Over (n : ℕ) (put : List ℕ → ℕ → ℕ → List ℕ) : Type 0 where
  same : (s : List ℕ) (at v u : ℕ) → put (put s at v) at u ≡ put s at u
  move : (s : List ℕ) (at to v u : ℕ) → (at + n ≤ to) ⊎ (to + n ≤ at) → put (put s at v) to u ≡ put (put s to u) at v
  byte : (s : List ℕ) (at to v u : ℕ) → (to < at) ⊎ (at + n ≤ to) → set (put s at v) to u ≡ put (set s to u) at v

one : Over 1 set
one = record { same = set-set; move = λ s at to v u d. set_comm s at to v u (⊎_elim (λ h. omega arith) (λ h. omega arith) d); byte = λ s at to v u d. set_comm s at to v u (⊎_elim (λ h. omega arith) (λ h. omega arith) d) }

module _ {n : ℕ} (b : ℕ) {put : List ℕ → ℕ → ℕ → List ℕ} (pos : 1 ≤ n) (C : Over n put) where
  abbrev put2 : List ℕ → ℕ → ℕ → List ℕ
  put2 s at v = put (put s at (v / b)) (at + n) (v % b)

  double : Over (n + n) put2
  double = record {
    same = λ s at v u.
        rw (C.move (put s at (v / b)) (at + n) at (v % b) (u / b) (inr (omega arith)), C.same s at (v / b) (u / b)) (C.same (put s at (u / b)) (at + n) (v % b) (u % b));
    move = λ s at to v u d.
        rw (
          C.move (put s at (v / b)) (at + n) to (v % b) (u / b) (⊎_elim (λ e. inl (omega arith)) (λ e. inr (omega arith)) d),
          C.move s at to (v / b) (u / b) (⊎_elim (λ e. inl (omega arith)) (λ e. inr (omega arith)) d),
          C.move (put (put s to (u / b)) at (v / b)) (at + n) (to + n) (v % b) (u % b) (⊎_elim (λ e. inl (omega arith)) (λ e. inr (omega arith)) d),
          C.move (put s to (u / b)) at (to + n) (v / b) (u % b) (⊎_elim (λ e. inl (omega arith)) (λ e. inr (omega arith)) d),
        );
    byte = λ s at to v u d.
        rw (
          C.byte (put s at (v / b)) (at + n) to (v % b) u (⊎_elim (λ e. inl (omega arith)) (λ e. inr (omega arith)) d),
          C.byte s at to (v / b) u (⊎_elim (λ e. inl (omega arith)) (λ e. inr (omega arith)) d),
        );
  }

words : Over 8 with_word
unfolding with_word with_half
words = double 4294967296 (omega arith) (double 65536 (omega arith) (double 256 (omega arith) one))

ne? : (j k : ℕ) → j ≢ k → (j < k) ⊎ (k < j)
ne? j k d = ⊎_elim inl (λ h. inr (omega arith)) (lt? j k)

pub set_word_same : (s : List ℕ) (k v u : ℕ) → set_word (set_word s k v) k u ≡ set_word s k u
set_word_same s k v u =
    ⊎_elim (λ h. set_in (set_word s k v) k u (rw length-set_word h) ∙ rw (set_in s k v h, set_in s k u h) (words.same s (8 * k) v u))
    (λ h. rw (set_out s k v h)) (here? s k)

pub set_word-move : (s : List ℕ) (j k v u : ℕ) → j ≢ k → set_word (set_word s j v) k u ≡ set_word (set_word s k u) j v
set_word-move s j k v u d = ⊎_elim (λ h. ⊎_elim (both h) (λ g. rw (set_out s k u g) (set_out (set_word s j v) k u (rw length-set_word g))) (here? s k))
    (λ h. rw (set_out s j v h) (sym (set_out (set_word s k u) j v (rw length-set_word h)))) (here? s j)
  where
    both : j < length s / 8 → k < length s / 8 → set_word (set_word s j v) k u ≡ set_word (set_word s k u) j v
    both h g =
        let x : set_word (set_word s j v) k u ≡ with_word (with_word s (8 * j) v) (8 * k) u = rw (← set_in s j v h) (set_in (set_word s j v) k u (rw length-set_word g)) in
        let y : set_word (set_word s k u) j v ≡ with_word (with_word s (8 * k) u) (8 * j) v = rw (← set_in s k u g) (set_in (set_word s k u) j v (rw length-set_word h)) in
        x ∙ words.move s (8 * j) (8 * k) v u (⊎_elim (λ e. inl (omega arith)) (λ e. inr (omega arith)) (ne? j k d)) ∙ sym y

-- a store into a byte past the word
pub set-set_word : (s : List ℕ) (k v at u : ℕ) → 8 * k + 8 ≤ at → set (set_word s k v) at u ≡ set_word (set s at u) k v
set-set_word s k v at u d = ⊎_elim
    (λ (h : k < length s / 8). rw (set_in s k v h, set_in (set s at u) k v (rw (length-set s at u) h)) (words.byte s (8 * k) at v u (inr d)))
    (λ (h : length s / 8 ≤ k). rw (set_out s k v h, set_out (set s at u) k v (rw (length-set s at u) h))) (here? s k)
