-- The records that mend writes, read off the damaged fields v of n pages: kinds, classes, run lengths, maps and tallies are kept,
-- neighbours are searched in page order, counts are made afresh, and the peaks raised over them.
use Rattle.std.specs.Prelude.{Bool, false, not, List, ℕ, zero, suc, ◌+◌, ◌-◌, eqb}
use Rattle.base.specs.Tests.{pick}
use Rattle.records.specs.Layout.{no_page, counts_place, links_place}
use Rattle.records.specs.declared.ClassRecord.{ClassRecord}
use Rattle.records.specs.declared.Links.{Links}
use Rattle.records.specs.Header.{with_header}
use Rattle.records.specs.Page.{pack_links}
use Rattle.model.specs.View.{used_of, shown}
use Rattle.records.specs.Class.{pack_counts, peak_at}
use Rattle.image.specs.Image.{Image, header_of, write_at, with_peaks}
use Rattle.rules.specs.Fields.{Fields, kind, class, run, map, page_at}
use Rattle.rules.specs.Read.{is_head, open_at, read_fields}
use Rattle.rules.specs.Rules.{kind_at, free_in}
use Rattle.rules.specs.Drawn.{links}
use Rattle.rules.specs.Bytes.{fields_of}
use Rattle.drawing.specs.Draw.{larger}

-- the first of the k numbers from a on that passes the test; no page where none does
unfoldable pub first_from : (q : (ℕ → Bool)) (a k : ℕ) → ℕ
first_from q a zero = no_page
first_from q a (suc k) = pick (q a) a (first_from q (a + 1) k)

-- the last number below p that passes the test; no page where none does
unfoldable pub last_below : (q : (ℕ → Bool)) (p : ℕ) → ℕ
last_below q zero = no_page
last_below q (suc p) = pick (q p) p (last_below q p)

-- page p is the last of a free run of two or more
unfoldable pub ends_run : (v : Fields) (n p : ℕ) → Bool
ends_run v n p = pick (eqb (kind v p) 0) (not (kind_at v n 0 (p + 1))) false

unfoldable pub next_anew : (v : Fields) (n p : ℕ) → ℕ
next_anew v n p =
    pick (is_head v n p) (first_from (is_head v n) (p + 1) (n - (p + 1)))
    (pick (open_at v n (class v p) p) (first_from (open_at v n (class v p)) (p + 1) (n - (p + 1))) no_page)

unfoldable pub prev_anew : (v : Fields) (n p : ℕ) → ℕ
prev_anew v n p =
    pick (is_head v n p) (last_below (is_head v n) p)
    (pick (open_at v n (class v p) p) (last_below (open_at v n (class v p)) p)
    (pick (ends_run v n p) (last_below (is_head v n) p) no_page))

-- the record of class c, and the links of page p
unfoldable pub class_anew : (v : Fields) (n c : ℕ) → ClassRecord
class_anew v n c = record {
  first = record { 0 = first_from (open_at v n c) 0 n };
  used = used_of (read_fields v n) c;
  total = (shown (read_fields v n)).total c;
  reqs = (v.image.class c).reqs;
  fails = (v.image.class c).fails;
}

unfoldable pub page_anew : (v : Fields) (n p : ℕ) → Links
page_anew v n p = links (kind v p) (class v p) (run v p) (next_anew v n p) (prev_anew v n p)

unfoldable pub image_anew : (v : Fields) (n : ℕ) → Image
image_anew v n = record {
  free_pages = free_in (page_at v n) n;
  first_run = first_from (is_head v n) 0 n;
  class = class_anew v n;
  map = map v;
  links = page_anew v n;
}

-- ---- the stores, in the order of the code; maps and tallies stand already

unfoldable pub header_written : (w : ℕ) (s : List ℕ) (n : ℕ) (x : List ℕ) → List ℕ
header_written w s n x = with_header x (header_of w n (free_in (page_at (fields_of w s) n) n) (first_from (is_head (fields_of w s) n) 0 n))

unfoldable pub counts_written : (w : ℕ) (s : List ℕ) (n : ℕ) (x : List ℕ) → List ℕ
counts_written w s n x = write_at (counts_place w) 9 (λ c. pack_counts (class_anew (fields_of w s) n c)) x

unfoldable pub links_written : (w : ℕ) (s : List ℕ) (n : ℕ) (x : List ℕ) → List ℕ
links_written w s n x = write_at (links_place w) n (λ p. pack_links (page_anew (fields_of w s) n p)) x

unfoldable pub peaks_written : (w : ℕ) (s : List ℕ) (n : ℕ) (x : List ℕ) → List ℕ
peaks_written w s n x = with_peaks w (λ c. larger (peak_at w s c) (used_of (read_fields (fields_of w s) n) c)) x

unfoldable pub written : (w : ℕ) (s : List ℕ) (n : ℕ) → List ℕ
written w s n = peaks_written w s n (links_written w s n (counts_written w s n (header_written w s n s)))
