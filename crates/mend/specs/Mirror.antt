-- The words that mend writes in loops, of the first k classes or pages.
use Rattle.std.specs.Prelude.{ℕ, List}
use Rattle.records.specs.Layout.{counts_place, peak_place, links_place}
use Rattle.records.specs.Class.{pack_counts, pack_peak, peak_at}
use Rattle.records.specs.Page.{pack_links}
use Rattle.model.specs.View.{used_of}
use Rattle.image.specs.Image.{write_at}
use Rattle.rules.specs.Read.{read_fields}
use Rattle.rules.specs.Bytes.{fields_of}
use Rattle.drawing.specs.Draw.{larger}
use Rattle.mending.specs.Mirror.{class_anew, page_anew}

unfoldable pub counts_below : (w : ℕ) (s : List ℕ) (n : ℕ) (x : List ℕ) (k : ℕ) → List ℕ
counts_below w s n x k = write_at (counts_place w) k (λ c. pack_counts (class_anew (fields_of w s) n c)) x

unfoldable pub links_below : (w : ℕ) (s : List ℕ) (n : ℕ) (x : List ℕ) (k : ℕ) → List ℕ
links_below w s n x k = write_at (links_place w) k (λ p. pack_links (page_anew (fields_of w s) n p)) x

unfoldable pub peaks_below : (w : ℕ) (s : List ℕ) (n : ℕ) (x : List ℕ) (k : ℕ) → List ℕ
peaks_below w s n x k = write_at (peak_place w) k (λ c. pack_peak (larger (peak_at w s c) (used_of (read_fields (fields_of w s) n) c))) x
