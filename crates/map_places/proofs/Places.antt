-- Where a map begins, by two numbers chosen by the class.
use mathlib.Core.Path.{◌≡◌}
use mathlib.Core.Logic.{◌⊎◌, inl, inr}
use Prim.Native.Nat.{ℕ, ◌+◌, ◌*◌, ◌≤◌, ◌<◌}
use native.Mathlib.Omega.{arith}
use Rattle.base.proofs.Cases.{lt?}
use Rattle.rules.specs.Bytes.{map_base}
use Rattle.classes.specs.Mirror.{map_word}
use Rattle.classes.proofs.Numbers.{word_paged, word_recorded, base_paged, base_recorded}

module _ (w P p c : ℕ) where
  pub word_chosen : (a b : ℕ) → (c < 3 → a ≡ P) × (3 ≤ c → a ≡ p) → (c < 3 → b ≡ p) × (3 ≤ c → b ≡ 0) → 1 + 9 * w + 2 * a + 512 * b ≡ map_word w P p c
  word_chosen a b h k = go (lt? c 3)
    where
      go : (c < 3) ⊎ (3 ≤ c) → 1 + 9 * w + 2 * a + 512 * b ≡ map_word w P p c
      go (inl l) = rw (word_paged w P p c l, h.0 l, k.0 l)
      go (inr l) = rw (word_recorded w P p c l, h.1 l, k.1 l) (omega arith)

  pub base_word : map_base w P p c ≡ 8 * map_word w P p c
  base_word = go (lt? c 3)
    where
      go : (c < 3) ⊎ (3 ≤ c) → map_base w P p c ≡ 8 * map_word w P p c
      go (inl l) = rw (base_paged w P p c l, word_paged w P p c l) (omega arith)
      go (inr l) = rw (base_recorded w P p c l, word_recorded w P p c l) (omega arith)
