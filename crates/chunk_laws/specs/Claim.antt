-- On the drawing of a well-formed state the operations on chunks draw the model's next state; each law cites definitions only.
use Rattle.std.specs.Prelude.{◌≡◌, Bool, true, false, List, [], ◌∷◌, ℕ, ◌≤◌, ◌<◌}
use Rattle.std.proofs.Math.Option.{some}
use Rattle.base.specs.Functions.{upd}
use Rattle.words.specs.Word.{Bytes}
use Rattle.model.specs.Classes.{chunks, own, lowest, has_taken}
use Rattle.model.specs.State.{slab, Run, State}
use Rattle.model.specs.Runs.{fit}
use Rattle.model.specs.Calls.{tallied, cut_page, mark_chunk, keep_page, drop_page}
use Rattle.model.specs.WellFormed.{WellFormed}
use Rattle.maps.specs.Bitmap.{with_mark}
use Rattle.maps.specs.Mirror.{lowest_clear}
use Rattle.rules.specs.Bytes.{pages_in, map_base}
use Rattle.map_count.specs.Mirror.{map_bits}
use Rattle.drawing.specs.Draw.{draw}
use Rattle.classes.specs.Mirror.{chunk_refused}
use Rattle.chunks.specs.Mirror.{chunk_taken, page_cut, chunk_freed}

pub record Laws (w : ℕ) (s : List ℕ) (m : State) : Type 0 where
  pub refused : (c : ℕ) → c ≤ 8 → chunk_refused w (draw w s m) c ≡ draw w s (tallied m c)
  -- of the first page of a class list, with the marks k: the chunk that a search finds, handed out
  pub lowest-found : (p c : ℕ) (k : ℕ → Bool) (rest : List ℕ) → m.page p ≡ slab c k → m.lists c ≡ p ∷ rest
      → lowest_clear (draw w s m) (map_base w m.size p c) (map_bits c) ≡ lowest c k
  pub taken : (p c : ℕ) (k : ℕ → Bool) (rest : List ℕ) → m.page p ≡ slab c k → m.lists c ≡ p ∷ rest
      → chunk_taken w (draw w s m) m.size c p (lowest c k) ≡ draw w s (mark_chunk m c p rest k).after
  -- a new page, where the class list is empty
  pub cut : (c : ℕ) (r : Run) → c ≤ 8 → m.lists c ≡ [] → fit 1 m.runs ≡ some r
      → page_cut w (draw w s m) m.size c r.start ≡ draw w s (cut_page m c (some r)).after
  -- chunk i of a class page, which is taken and not the map's: others stay
  pub kept : (p c : ℕ) (k : ℕ → Bool) (i : ℕ) → m.page p ≡ slab c k → own c ≤ i → i < chunks c → k i ≡ true → has_taken c (upd k i false) ≡ true
      → chunk_freed w (draw w s m) m.size c p i ≡ draw w s (keep_page m p c k i)
  -- it was the last: the cleared mark stays in the bytes of the page where the map lies there
  pub dropped : (p c : ℕ) (k : ℕ → Bool) (i : ℕ) → m.page p ≡ slab c k → own c ≤ i → i < chunks c → k i ≡ true → has_taken c (upd k i false) ≡ false
      → chunk_freed w (draw w s m) m.size c p i ≡ draw w (with_mark (draw w s m) (map_base w m.size p c) i false) (drop_page m p c k)

abbrev pub Claims : Type 0
Claims = (w : ℕ) → 2 ≤ w → w ≤ 255 → (s : List ℕ) → Bytes s → (m : State) → WellFormed m → m.size ≡ pages_in w s → m.size ≤ 4096 → Laws w s m
