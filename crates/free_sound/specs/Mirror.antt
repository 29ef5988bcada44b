-- Free on sound records, in the bytes of a pool of P pages: what begins at the offset is given back.
use Rattle.std.specs.Prelude.{ℕ, ◌*◌, ◌%◌, ◌≤◌, ◌<◌, Bool, List, Result, Ok, Err}
use Rattle.base.specs.Tests.{pick}
use Rattle.answers.specs.Outcome.{Outcome, granted, refused}
use Rattle.answers.specs.declared.Refusal.TheVariants.{NotTaken}
use Rattle.model.specs.Classes.{chunk, chunks}
use Rattle.maps.specs.Bitmap.{mark}
use Rattle.rules.specs.Bytes.{map_base}
use Rattle.run_neighbours.specs.Mirror.{pages_released}
use Rattle.map_occupancy.specs.Mirror.{bit_for}
use Rattle.chunks.specs.Mirror.{chunk_freed}
use Rattle.answers.specs.declared.Refusal.{Refusal}
use Rattle.locate.specs.declared.Found.{Found}
use Rattle.locate.specs.declared.Found.TheVariants as found
use Rattle.locate.specs.Mirror.{located}

-- a chunk is of one of the nine classes, of one of the pages, and one of its page's chunks
abbrev pub Classed : ℕ → Result Found Refusal → Type 0
Classed P (Ok (found.Chunk k)) = (k.class ≤ 8) × (k.page.0 < P) × (k.index < chunks k.class)
Classed P (Ok (found.Run r)) = Unit {0}
Classed P (Err r) = Unit {0}

-- ---- chunk i of page p, of class c, where it is taken

unfoldable pub marked : (w : ℕ) (s : List ℕ) (P c p i : ℕ) → Bool
marked w s P c p i = mark s (map_base w P p c) (bit_for c i)

unfoldable pub chunk_outcome : (w : ℕ) (s : List ℕ) (P c p i : ℕ) → Outcome
chunk_outcome w s P c p i = pick (marked w s P c p i) (granted (chunk c)) (refused NotTaken)

unfoldable pub chunk_slice : (w : ℕ) (s : List ℕ) (P c p i : ℕ) → List ℕ
chunk_slice w s P c p i = pick (marked w s P c p i) (chunk_freed w s P c p i) s

-- ---- what was found; no page has more than 512 chunks

abbrev pub found_outcome : (w : ℕ) (s : List ℕ) (P : ℕ) → Result Found Refusal → Outcome
found_outcome w s P (Ok (found.Chunk k)) = chunk_outcome w s P k.class k.page.0 (k.index % 512)
found_outcome w s P (Ok (found.Run r)) = granted (4096 * r.pages)
found_outcome w s P (Err r) = refused r

abbrev pub found_slice : (w : ℕ) (s : List ℕ) (P : ℕ) → Result Found Refusal → List ℕ
found_slice w s P (Ok (found.Chunk k)) = chunk_slice w s P k.class k.page.0 (k.index % 512)
found_slice w s P (Ok (found.Run r)) = pages_released w s P r.page.0 r.pages
found_slice w s P (Err r) = s

unfoldable pub free_outcome : (w : ℕ) (s : List ℕ) (P off : ℕ) → Outcome
free_outcome w s P off = found_outcome w s P (located w s P off)

unfoldable pub free_slice : (w : ℕ) (s : List ℕ) (P off : ℕ) → List ℕ
free_slice w s P off = found_slice w s P (located w s P off)
