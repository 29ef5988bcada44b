-- The mark of chunk i in the map that begins with word k, by the word that has it.
use mathlib.Core.Path.{◌≡◌, sym, ap, ◌∙◌}
use mathlib.Core.Bool.{Bool}
use mathlib.Core.List.{List}
use Prim.Native.Nat.{ℕ, ◌+◌, ◌*◌, ◌/◌, ◌%◌, ◌≤◌, ◌<◌}
use Rattle.model.specs.Classes.{chunks}
use Rattle.maps.specs.Bitmap.{mark, with_mark}
use Rattle.maps.proofs.Marks.{mark_in-word, with_mark_in_word}
use Rattle.map_occupancy.specs.Mirror.{bit_for}
use Rattle.map_occupancy.proofs.Words.{bit_paged, bit_recorded, bit-own}

module _ (s : List ℕ) (k c i : ℕ) where
  -- of a chunk that the page has, wherever the map lies
  module _ (own : i < chunks c) where
    pub chunk-mark : mark s (8 * (k + i / 64)) (i % 64) ≡ mark s (8 * k) (bit_for c i)
    chunk-mark = mark_in-word s k i ∙ ap (mark s (8 * k)) (sym (bit-own c i own))

    pub chunk-marked : (v : Bool) → with_mark s (8 * (k + i / 64)) (i % 64) v ≡ with_mark s (8 * k) (bit_for c i) v
    chunk-marked v = with_mark_in_word s k i v ∙ ap (λ (b : ℕ). with_mark s (8 * k) b v) (sym (bit-own c i own))

  -- in the page
  pub paged_marked : c < 3 → (v : Bool) → with_mark s (8 * (k + i / 64)) (i % 64) v ≡ with_mark s (8 * k) (bit_for c i) v
  paged_marked small v = with_mark_in_word s k i v ∙ ap (λ (b : ℕ). with_mark s (8 * k) b v) (sym (bit_paged c i small))

  -- in the record
  pub recorded_marked : 3 ≤ c → (v : Bool) → with_mark s (8 * k) (i % 64) v ≡ with_mark s (8 * k) (bit_for c i) v
  recorded_marked large v = ap (λ (b : ℕ). with_mark s (8 * k) b v) (sym (bit_recorded c i large))
