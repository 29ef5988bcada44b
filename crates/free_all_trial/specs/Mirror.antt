-- The trial of a list of offsets on the bytes of a pool, by marks alone.
-- A chunk that would be freed has its mark cleared in its map; a run that would be freed has mark 0 of its first record's map field set, which is clear in a sound pool.
use Rattle.std.specs.Prelude.{Bool, false, ◌&&◌, not, List, [], ◌∷◌, ℕ, suc, ◌*◌, ◌/◌, ◌%◌}
use Rattle.records.specs.Layout.{map_place}
use Rattle.maps.specs.Bitmap.{mark, with_mark}
use Rattle.model.specs.Classes.{chunk}
use Rattle.model.specs.State.{Page, idle, slab, taken, inside, edge}
use Rattle.rules.specs.Fields.{page_at}
use Rattle.rules.specs.Bytes.{pages_in, map_base, fields_of}
use Rattle.free_all_model.specs.FreeAll.{Completion, done, onward}
use Rattle.free_all_model.specs.Mirror.{Trial, is_first, tried}

-- the tentative pages that the bytes show
unfoldable pub shown_page : (w : ℕ) (s : List ℕ) → ℕ → Page
shown_page w s p = page_at (fields_of w s) (pages_in w s) p

unfoldable pub shown_trial : (w : ℕ) (s : List ℕ) → Trial
shown_trial w s = record {
  page = shown_page w s;
  flag = λ p. is_first (shown_page w s p) && mark s (8 * map_place w p) 0;
}

-- the block q bytes into page p, which is x, is live or not
unfoldable pub put_mark_at : Bool → (w : ℕ) (s : List ℕ) (p q : ℕ) → Page → List ℕ
put_mark_at live w s p q idle = s
put_mark_at live w s p q (slab c m) = with_mark s (map_base w (pages_in w s) p c) (q / chunk c) live
put_mark_at live w s p q (taken n) = with_mark s (8 * map_place w p) 0 (not live)
put_mark_at live w s p q inside = s
put_mark_at live w s p q edge = s

unfoldable pub put_mark : Bool → (w : ℕ) (s : List ℕ) → ℕ → List ℕ
put_mark live w s off = put_mark_at live w s (off / 4096) (off % 4096) (shown_page w s (off / 4096))

-- ---- a list of offsets, the first of which has place k

unfoldable pub tried_on : (w : ℕ) (s : List ℕ) → ℕ → List ℕ → Completion
tried_on w s k [] = done
tried_on w s k (off ∷ offs) = onward k (tried (shown_trial w s) off) (tried_on w (put_mark false w s off) (suc k) offs)
