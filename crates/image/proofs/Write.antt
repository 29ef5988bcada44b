-- Strided writes of words.
use mathlib.Core.Path.{◌≡◌, refl, sym, ◌∙◌}
use mathlib.Core.Logic.{◌⊎◌, inl, inr, ◌≢◌}
use mathlib.Core.List.{List}
use Prim.Native.Nat.{ℕ, zero, suc, ◌+◌, ◌*◌, ◌/◌, ◌≤◌, ◌<◌}
use native.Mathlib.Omega.{arith}
use lib.ListN.{length, get_or, set}
use Rattle.words.specs.Word.{word, set_word}
use Rattle.words.proofs.Laws.{word-set_same, word-set_other, length-set_word, set_word-outside}
use Rattle.words.proofs.Stores.{set_word_same, set_word-move, set-set_word}
use Rattle.base.specs.Functions.{upd}
use Rattle.base.proofs.Cases.{eq?}
use Rattle.base.proofs.Functions.{upd_same, upd_other}
use Rattle.image.specs.Image.{write_at}

module _ (at : ℕ → ℕ) where
  pub length-write : (n : ℕ) (f : ℕ → ℕ) (s : List ℕ) → length (write_at at n f s) ≡ length s
  unfolding write_at
  length-write zero f s = refl
  length-write (suc n) f s = length-set_word (write_at at n f s) (at n) (f n) ∙ length-write n f s

  pub write_ext : (n : ℕ) (f g : ℕ → ℕ) (s : List ℕ) → ((i : ℕ) → i < n → f i ≡ g i) → write_at at n f s ≡ write_at at n g s
  unfolding write_at
  write_ext zero f g s e = refl
  write_ext (suc n) f g s e = rw (e n (omega arith), write_ext n f g s (λ i l. e i (omega arith)))

  -- a store into a byte past the words
  pub byte_past : (n : ℕ) (f : ℕ → ℕ) (s : List ℕ) (to u : ℕ) → ((i : ℕ) → i < n → 8 * at i + 8 ≤ to) → set (write_at at n f s) to u ≡ write_at at n f (set s to u)
  unfolding write_at
  byte_past zero f s to u d = refl
  byte_past (suc n) f s to u d =
      set-set_word (write_at at n f s) (at n) (f n) to u (d n (omega arith)) ∙ rw (byte_past n f s to u (λ i l. d i (omega arith)))

  pub byte_kept : (n : ℕ) (f : ℕ → ℕ) (s : List ℕ) (to : ℕ) → ((i : ℕ) → i < n → 8 * at i + 8 ≤ to) → get_or (write_at at n f s) to 0 ≡ get_or s to 0
  unfolding write_at
  byte_kept zero f s to d = refl
  byte_kept (suc n) f s to d = set_word-outside (write_at at n f s) (at n) (f n) to (inr (d n (omega arith))) ∙ byte_kept n f s to (λ i l. d i (omega arith))

  -- a store elsewhere
  pub set_past : (n : ℕ) (f : ℕ → ℕ) (s : List ℕ) (k v : ℕ) → ((i : ℕ) → i < n → at i ≢ k) →
      set_word (write_at at n f s) k v ≡ write_at at n f (set_word s k v)
  unfolding write_at
  set_past zero f s k v d = refl
  set_past (suc n) f s k v d =
      rw (set_word-move (write_at at n f s) (at n) k (f n) v (d n (omega arith)), set_past n f s k v (λ i l. d i (omega arith)))

  pub word-past : (n : ℕ) (f : ℕ → ℕ) (s : List ℕ) (k : ℕ) → ((i : ℕ) → i < n → at i ≢ k) → word (write_at at n f s) k ≡ word s k
  unfolding write_at
  word-past zero f s k d = refl
  word-past (suc n) f s k d =
      word-set_other (write_at at n f s) (at n) k (f n) (λ e. d n (omega arith) (sym e)) ∙ word-past n f s k (λ i l. d i (omega arith))

  module _ (apart : (i j : ℕ) → i ≢ j → at i ≢ at j) where
    -- a store into one of the words
    pub set-write : (n : ℕ) (f : ℕ → ℕ) (s : List ℕ) (i v : ℕ) → i < n → set_word (write_at at n f s) (at i) v ≡ write_at at n (upd f i v) s
    unfolding write_at
    set-write (suc n) f s i v l = go (eq? i n) (set-write n f s i v)
      where
        go : (i ≡ n) ⊎ (i ≢ n) → (i < n → set_word (write_at at n f s) (at i) v ≡ write_at at n (upd f i v) s) →
            set_word (set_word (write_at at n f s) (at n) (f n)) (at i) v ≡ set_word (write_at at n (upd f i v) s) (at n) (upd f i v n)
        go (inl p) ih =
            rw (
              p,
              set_word_same (write_at at n f s) (at n) (f n) v,
              upd_same f n v,
              write_ext n (upd f n v) f s (λ j u. upd_other f n v j (omega arith)),
            )
        go (inr p) ih =
            set_word-move (write_at at n f s) (at n) (at i) (f n) v (apart n i (λ e. p (sym e)))
            ∙ rw (ih (omega arith), upd_other f i v n (λ e. p (sym e)))
    set-write zero f s i v l = elim l [ ]

    pub word_write : (n : ℕ) (f : ℕ → ℕ) (s : List ℕ) (i : ℕ) → i < n → at i < length s / 8 → word (write_at at n f s) (at i) ≡ f i
    unfolding write_at
    word_write (suc n) f s i l h = go (eq? i n) (λ u. word_write n f s i u h)
      where
        go : (i ≡ n) ⊎ (i ≢ n) → (i < n → word (write_at at n f s) (at i) ≡ f i) → word (set_word (write_at at n f s) (at n) (f n)) (at i) ≡ f i
        go (inl p) ih = rw (p, word-set_same (write_at at n f s) (at n) (f n) (rw (length-write n f s, ← p) h))
        go (inr p) ih = word-set_other (write_at at n f s) (at n) (at i) (f n) (apart i n p) ∙ ih (omega arith)
    word_write zero f s i l h = elim l [ ]
