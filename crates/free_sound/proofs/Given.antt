-- A chunk that is given back: its mark by the word that has it, and the words that are read and written lie in the slice.
use mathlib.Core.Path.{◌≡◌, sym, ap, ◌∙◌}
use mathlib.Core.Bool.{Bool, true, false}
use mathlib.Core.List.{List}
use Prim.Native.Nat.{ℕ, ◌+◌, ◌*◌, ◌/◌, ◌%◌, ◌≤◌, ◌<◌}
use native.Mathlib.Omega.{arith}
use lib.ListN.{length}
use Rattle.base.proofs.AllBelow.{pick_yes, pick_no}
use Rattle.records.specs.Layout.{counts_place, links_place}
use Rattle.answers.specs.Outcome.{Outcome, granted, refused}
use Rattle.answers.specs.declared.Refusal.TheVariants.{NotTaken}
use Rattle.model.specs.Classes.{chunk, chunks}
use Rattle.maps.specs.Bitmap.{mark}
use Rattle.map_places.proofs.Places.{base_word}
use Rattle.classes.specs.Mirror.{Whole, map_word}
use Rattle.classes.proofs.Numbers.{chunks_512, tally-whole, links-whole, map_whole}
use Rattle.chunks.specs.Mirror.{freed_at, chunk_freed}
use Rattle.chunks.proofs.Marks.{chunk-mark}
use Rattle.free_sound.specs.Mirror.{marked, chunk_outcome, chunk_slice}

module _ (w : ℕ) (s : List ℕ) (P c p k : ℕ) (place : k ≡ map_word w P p c) where
  module _ (whole : Whole w s P) where
    pub counts_in : c ≤ 8 → counts_place w c < length s / 8
    counts_in h = omega (arith, tally-whole w P (length s / 8) whole.0 whole.1 c h)

    pub links_in : p < P → links_place w p < length s / 8
    links_in h = links-whole w P (length s / 8) whole.0 whole.1 p h

    pub mark_in : p < P → (i : ℕ) → i < chunks c → k + i / 64 < length s / 8
    mark_in h i l =
        let e : k + 8 < length s / 8 = rw place (map_whole w P (length s / 8) whole.0 whole.1 p h c) in
        omega (arith, chunks_512 c)

  module _ (i : ℕ) (r : Bool) where
    pub chunk-told : i < chunks c → r ≡ mark s (8 * (k + i / 64)) (i % 64) → r ≡ marked w s P c p i
    unfolding marked
    chunk-told own e = e ∙ chunk-mark s k c i own ∙ rw (place, base_word w P p c)

    module _ (told : r ≡ marked w s P c p i) where
      pub not-marked : r ≡ false → (refused NotTaken ≡ chunk_outcome w s P c p i) × (s ≡ chunk_slice w s P c p i)
      unfolding chunk_outcome chunk_slice
      not-marked f = (sym (pick_no _ _ _ (sym told ∙ f)), sym (pick_no _ _ _ (sym told ∙ f)))

      pub given_back : (x : Outcome) (out : List ℕ) → r ≡ true → x ≡ granted (chunk c) → out ≡ freed_at w s P c p k i
          → (x ≡ chunk_outcome w s P c p i) × (out ≡ chunk_slice w s P c p i)
      unfolding chunk_outcome chunk_slice chunk_freed
      given_back x out t e q =
          (e ∙ sym (pick_yes _ _ _ (sym told ∙ t)), q ∙ ap (λ (x : ℕ). freed_at w s P c p x i) place ∙ sym (pick_yes _ _ _ (sym told ∙ t)))
