-- The fields in the bytes of a pool; rule 1; the first rule that does not hold; the state that the bytes show.
use Rattle.std.specs.Prelude.{ℕ, ◌+◌, ◌-◌, ◌*◌, ◌%◌, Bool, true, false, List, [], ◌∷◌, eqb, leb, ltb, length}
use Rattle.base.specs.Tests.{pick, all_of, all_below}
use Rattle.words.specs.Word.{word}
use Rattle.records.specs.Layout.{map_place, links_place, pages_from, page_count}
use Rattle.records.specs.Header.{header_at}
use Rattle.records.specs.Class.{class_at, peak_at, peak_spare}
use Rattle.records.specs.Page.{links_at}
use Rattle.model.specs.Classes.{chunks, max_pages}
use Rattle.model.specs.State.{State}
use Rattle.maps.specs.Bitmap.{mark}
use Rattle.image.specs.Image.{Image}
use Rattle.rules.specs.Fields.{Fields}
use Rattle.rules.specs.Read.{read_fields}
use Rattle.rules.specs.Rules.{rule2, rule3, rule4, rule5, rule6}

-- the page count that the length gives
abbrev pub pages_in : (w : ℕ) (s : List ℕ) → ℕ
pages_in w s = page_count w (length s)

-- where the map of page p lies, in a pool of P pages: at the start of the page for classes 8, 16 and 32, else in its record
unfoldable pub map_base : (w P p c : ℕ) → ℕ
map_base w P p c = pick (ltb c 3) (pages_from w P + 4096 * p) (8 * map_place w p)

-- mark i of page p, which has class c; clear past the page's chunks
unfoldable pub mark_at : (w : ℕ) (s : List ℕ) (p c i : ℕ) → Bool
mark_at w s p c i = pick (ltb i (chunks c)) (mark s (map_base w (pages_in w s) p c) i) false

unfoldable pub image_of : (w : ℕ) (s : List ℕ) → Image
image_of w s = record {
  free_pages = (header_at s).free_pages;
  first_run = (header_at s).first_run.0;
  class = class_at w s;
  map = λ p. word s (map_place w p);
  links = links_at w s;
}

unfoldable pub fields_of : (w : ℕ) (s : List ℕ) → Fields
fields_of w s = record {
  image = image_of w s;
  spare = λ p. word s (links_place w p) % 512;
  mark = λ p. mark_at w s p (links_at w s p).class;
}

-- rule 1: the length gives a P from 1 to the largest; the header's constants and P agree
unfoldable pub rule1 : (w : ℕ) (s : List ℕ) → Bool
rule1 w s = all_of (
    leb (8 + 72 * w + 4112) (length s) ∷ leb (pages_in w s) max_pages ∷
    eqb (header_at s).edition (w - 1) ∷ eqb (header_at s).min_shift 3 ∷ eqb (header_at s).page_shift 12 ∷
    eqb (header_at s).pages (pages_in w s) ∷ [])

-- rule 6 of a class record's third word: the peak is at least used, and the bits after it are 0
unfoldable pub peak_fits : (w : ℕ) (s : List ℕ) (c : ℕ) → Bool
peak_fits w s c = pick (leb (class_at w s c).used (peak_at w s c)) (eqb (peak_spare w s c) 0) false

unfoldable pub peaks_fit : (w : ℕ) (s : List ℕ) → Bool
peaks_fit w s = pick (ltb 2 w) (all_below (peak_fits w s) 9) true

-- rule 6: the counts, and the peaks where there are any
unfoldable pub counts_and_peaks : (w : ℕ) (s : List ℕ) → Bool
counts_and_peaks w s = pick (rule6 (fields_of w s) (pages_in w s)) (peaks_fit w s) false

-- the number of the first rule that does not hold; 0 where all do
unfoldable pub broken_rule : (w : ℕ) (s : List ℕ) → ℕ
broken_rule w s =
    pick (rule1 w s)
    (pick (rule2 (fields_of w s) (pages_in w s))
    (pick (rule3 (fields_of w s) (pages_in w s))
    (pick (rule4 (fields_of w s) (pages_in w s))
    (pick (rule5 (fields_of w s) (pages_in w s)) (pick (counts_and_peaks w s) 0 6) 5) 4) 3) 2) 1

unfoldable pub read : (w : ℕ) (s : List ℕ) → State
read w s = read_fields (fields_of w s) (pages_in w s)
