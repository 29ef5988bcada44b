-- The stores of format, in the order of the code.
use Rattle.std.specs.Prelude.{ℕ, ◌+◌, ◌-◌, ◌*◌, List, ltb}
use Rattle.base.specs.Tests.{pick}
use Rattle.records.specs.Layout.{no_page}
use Rattle.records.specs.Header.{with_header}
use Rattle.records.specs.Class.{empty_class, pack_counts, pack_tally}
use Rattle.records.specs.Page.{pack_links, with_links}
use Rattle.image.specs.Image.{header_of, write_at}
use Rattle.format.specs.Format.{inside_free, first_free}

-- n words, `step` apart from `from` on
unfoldable pub filled : (s : List ℕ) (from step n v : ℕ) → List ℕ
filled s from step n v = write_at (λ i. from + step * i) n (λ i. v) s

-- peaks of 0, where class records have a third word
unfoldable pub peaks_cleared : (w : ℕ) (s : List ℕ) → List ℕ
peaks_cleared w s = pick (ltb 2 w) (filled s 3 w 9 0) s

unfoldable pub classes_cleared : (w : ℕ) (s : List ℕ) → List ℕ
classes_cleared w s = filled (filled s 1 w 9 (pack_counts empty_class)) 2 w 9 (pack_tally empty_class)

unfoldable pub pages_cleared : (w P : ℕ) (s : List ℕ) → List ℕ
pages_cleared w P s = filled (filled s (1 + 9 * w) 2 P 0) (2 + 9 * w) 2 P (pack_links (inside_free no_page))

-- the pages become one free run
unfoldable pub run_linked : (w P : ℕ) (s : List ℕ) → List ℕ
run_linked w P s = with_links w (with_links w s (P - 1) (inside_free 0)) 0 (first_free P)

unfoldable pub written : (w P : ℕ) (s : List ℕ) → List ℕ
written w P s = run_linked w P (pages_cleared w P (classes_cleared w (with_header (peaks_cleared w s) (header_of w P P 0))))
