-- A chunk that comes back, by whether others of its page stay taken.
use mathlib.Core.Path.{◌≡◌, sym, ap, ◌∙◌}
use mathlib.Core.Bool.{Bool, true, false}
use mathlib.Core.List.{List}
use Prim.Native.Nat.{ℕ, ◌+◌, ◌*◌, ◌/◌, ◌%◌, ◌<◌}
use Rattle.base.proofs.AllBelow.{pick_yes, pick_no}
use Rattle.model.specs.Classes.{chunks}
use Rattle.maps.specs.Bitmap.{with_mark}
use Rattle.run_neighbours.specs.Mirror.{pages_released}
use Rattle.map_occupancy.specs.Mirror.{last_taken}
use Rattle.classes.specs.Mirror.{count_page_back}
use Rattle.chunks.specs.Mirror.{delisted, back_counted, kept_at, page_dropped, freed_at}
use Rattle.chunks.proofs.Marks.{chunk-marked}

module _ (w : ℕ) (s : List ℕ) (P c p k i : ℕ) (out : List ℕ) (own : i < chunks c) (r : Bool) (told : r ≡ last_taken s k c i) where
  pub dropped : r ≡ true → out ≡ count_page_back w (with_mark (pages_released w (delisted w s c p) P p 1) (8 * (k + i / 64)) (i % 64) false) c → out ≡ freed_at w s P c p k i
  unfolding freed_at page_dropped
  dropped t q =
      q ∙ ap (λ (x : List ℕ). count_page_back w x c) (chunk-marked (pages_released w (delisted w s c p) P p 1) k c i own false) ∙ sym (pick_yes _ _ _ (sym told ∙ t))

  pub kept : r ≡ false → out ≡ with_mark (back_counted w s c p) (8 * (k + i / 64)) (i % 64) false → out ≡ freed_at w s P c p k i
  unfolding freed_at kept_at
  kept t q = q ∙ chunk-marked (back_counted w s c p) k c i own false ∙ sym (pick_no _ _ _ (sym told ∙ t))
