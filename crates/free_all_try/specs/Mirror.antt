-- What a free of one offset answers on tentative marks, in the order of code. P is the number of pages.
use Rattle.std.specs.Prelude.{Bool, false, not, List, ℕ, zero, suc, ◌/◌, ◌%◌, eqb, ltb, Result, Ok, Err}
use Rattle.base.specs.Tests.{pick, all_below}
use Rattle.answers.specs.Outcome.{number_of}
use Rattle.answers.specs.declared.Refusal.{Refusal}
use Rattle.answers.specs.declared.Refusal.TheVariants.{NotTaken, NotAStart}
use Rattle.records.specs.declared.Links.{Links}
use Rattle.records.specs.Page.{links_at}
use Rattle.maps.specs.Bitmap.{mark}
use Rattle.model.specs.Classes.{chunks, own}
use Rattle.model.specs.Ruling.{Verdict, granted, refused}
use Rattle.rules.specs.Bytes.{map_base}
use Rattle.locate.specs.declared.Found.{Found}
use Rattle.locate.specs.declared.Found.TheVariants as found
use Rattle.locate.specs.Mirror.{located}

-- ---- a page that is free once the granted offsets are

-- mark i of the map at base, whose first `owned` are the map's own, is a caller's
unfoldable pub held_at : (s : List ℕ) (base owned : ℕ) → ℕ → Bool
held_at s base owned i = pick (ltb i owned) false (mark s base i)

unfoldable pub unheld_at : (s : List ℕ) (base owned : ℕ) → ℕ → Bool
unheld_at s base owned i = not (held_at s base owned i)

-- no chunk of the page, which is of class c, is in a caller's hands
unfoldable pub emptied : (w : ℕ) (s : List ℕ) (P c p : ℕ) → Bool
emptied w s P c p = all_below (unheld_at s (map_base w P p c) (own c)) (chunks c)

-- the run that begins with page p is given back
unfoldable pub flagged : (w : ℕ) (s : List ℕ) (P p : ℕ) → Bool
flagged w s P p = mark s (map_base w P p 3) 0

-- the nearest first page of a taken run below page j
unfoldable pub first_kind : (w : ℕ) (s : List ℕ) → ℕ → ℕ
first_kind w s zero = zero
first_kind w s (suc j) = pick (eqb (links_at w s j).kind 3) j (first_kind w s j)

-- the run that page p lies inside is given back
unfoldable pub inner_flagged : (w : ℕ) (s : List ℕ) (P p : ℕ) → Bool
inner_flagged w s P p = flagged w s P (first_kind w s p)

-- by the links of page p
unfoldable pub kind_released : (w : ℕ) (s : List ℕ) (P p : ℕ) → Links → Bool
kind_released w s P p l = pick (eqb l.kind 2) (emptied w s P l.class p) (pick (eqb l.kind 3) (flagged w s P p) (inner_flagged w s P p))

unfoldable pub released : (w : ℕ) (s : List ℕ) (P p : ℕ) → Bool
released w s P p = kind_released w s P p (links_at w s p)

-- ---- the answer, by what the marks say of the offset

unfoldable pub off_start : (w : ℕ) (s : List ℕ) (P p : ℕ) → Result (Unit {0}) Refusal
off_start w s P p = pick (released w s P p) (Err NotTaken) (Err NotAStart)

unfoldable pub refused_tried : (w : ℕ) (s : List ℕ) (P p : ℕ) → Refusal → Result (Unit {0}) Refusal
refused_tried w s P p r = pick (eqb (number_of r) 7) (off_start w s P p) (Err r)

unfoldable pub run_tried : (w : ℕ) (s : List ℕ) (P p : ℕ) → Result (Unit {0}) Refusal
run_tried w s P p = pick (flagged w s P p) (Err NotTaken) (Ok tt)

-- chunk i of page p, of class c
unfoldable pub chunk_tried : (w : ℕ) (s : List ℕ) (P c p i : ℕ) → Result (Unit {0}) Refusal
chunk_tried w s P c p i = pick (mark s (map_base w P p c) i) (Ok tt) (Err NotTaken)

abbrev pub found_tried : (w : ℕ) (s : List ℕ) (P p : ℕ) → Result Found Refusal → Result (Unit {0}) Refusal
found_tried w s P p (Ok (found.Chunk k)) = chunk_tried w s P k.class k.page.0 (k.index % 512)
found_tried w s P p (Ok (found.Run r)) = run_tried w s P p
found_tried w s P p (Err r) = refused_tried w s P p r

unfoldable pub offset_tried : (w : ℕ) (s : List ℕ) (P off : ℕ) → Result (Unit {0}) Refusal
offset_tried w s P off = found_tried w s P (off / 4096 % 65536) (located w s P off)

-- the answer as a verdict of the model
abbrev pub tried_verdict : Result (Unit {0}) Refusal → Verdict
tried_verdict (Ok _) = granted
tried_verdict (Err r) = refused (number_of r)
