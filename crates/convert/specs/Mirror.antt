-- The stores of a conversion, in the order of the code.
use Rattle.std.specs.Prelude.{ℕ, ◌+◌, ◌*◌, List}
use Rattle.words.specs.Word.{word}
use Rattle.records.specs.Layout.{peak_place, pages_from}
use Rattle.records.specs.Header.{header_at, with_header}
use Rattle.records.specs.Class.{class_at, pack_peak}
use Rattle.copying.specs.Lay.{lay}
use Rattle.image.specs.Image.{header_of, write_at}

-- n words, `step` apart from `to` on, those of s, `stride` apart from `from` on
unfoldable pub words_copied : (to step from stride n : ℕ) (s t : List ℕ) → List ℕ
words_copied to step from stride n s t = write_at (λ i. to + step * i) n (λ i. word s (from + stride * i)) t

unfoldable pub peaks_set : (s t : List ℕ) → List ℕ
peaks_set s t = write_at (peak_place 3) 9 (λ c. pack_peak (class_at 2 s c).used) t

unfoldable pub pages_laid : (P : ℕ) (s t : List ℕ) → List ℕ
pages_laid P s t = lay (pages_from 3 P) (pages_from 2 P) s (4096 * P) t

unfoldable pub header_set : (P : ℕ) (s t : List ℕ) → List ℕ
header_set P s t = with_header t (header_of 3 P (header_at s).free_pages (header_at s).first_run.0)

unfoldable pub classes_copied : (s t : List ℕ) → List ℕ
classes_copied s t = words_copied 2 3 2 2 9 s (words_copied 1 3 1 2 9 s t)

unfoldable pub pages_copied : (P : ℕ) (s t : List ℕ) → List ℕ
pages_copied P s t = words_copied 29 2 20 2 P s (words_copied 28 2 19 2 P s t)

unfoldable pub written : (P : ℕ) (s t : List ℕ) → List ℕ
written P s t = pages_copied P s (classes_copied s (header_set P s (peaks_set s (pages_laid P s t))))
