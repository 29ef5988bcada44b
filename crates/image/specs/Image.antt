-- The records of a pool as functions, one for each kind of record, and the bytes that they make.
-- Above, records are changed as images; `paint` makes words of them.
use Rattle.std.specs.Prelude.{◌≡◌, List, ℕ, zero, suc, ◌-◌, ◌<◌, ltb}
use Rattle.base.specs.Tests.{pick}
use Rattle.base.specs.Functions.{upd}
use Rattle.words.specs.Word.{set_word}
use Rattle.records.specs.Layout.{counts_place, tally_place, peak_place, map_place, links_place}
use Rattle.records.specs.declared.Header.{Header}
use Rattle.records.specs.declared.ClassRecord.{ClassRecord}
use Rattle.records.specs.declared.Links.{Links}
use Rattle.records.specs.Header.{pack_header}
use Rattle.records.specs.Class.{pack_counts, pack_tally, pack_peak}
use Rattle.records.specs.Page.{pack_links}

-- of the header: free pages and first free run; of class c its record; of page p its map field and its links
pub record Image : Type 0 where
  pub free_pages : ℕ
  pub first_run : ℕ
  pub class : ℕ → ClassRecord
  pub map : ℕ → ℕ
  pub links : ℕ → Links

-- with other links, of all pages or of page p
abbrev pub set_all_links : (I : Image) (f : (ℕ → Links)) → Image
set_all_links I f = record { free_pages = I.free_pages; first_run = I.first_run; class = I.class; map = I.map; links = f }

abbrev pub set_links : (I : Image) (p : ℕ) (l : Links) → Image
set_links I p l = set_all_links I (upd I.links p l)

-- edition w - 1 has class records of w words; smallest shift 3, page shift 12
abbrev pub header_of : (w P free first : ℕ) → Header
header_of w P free first =
    record {
      edition = w - 1;
      min_shift = 3;
      page_shift = 12;
      pages = P;
      free_pages = free;
      first_run = record { 0 = first };
    }

-- the words at 0, .., at (n - 1) set to f 0, .., f (n - 1)
unfoldable pub write_at : (ℕ → ℕ) → ℕ → (ℕ → ℕ) → List ℕ → List ℕ
write_at at zero f s = s
write_at at (suc n) f s = set_word (write_at at n f s) (at n) (f n)

-- s with the records of P pages that the image says
unfoldable pub paint : (w P : ℕ) (I : Image) (s : List ℕ) → List ℕ
paint w P I s =
    write_at (links_place w) P (λ p. pack_links (I.links p))
    (write_at (map_place w) P I.map
    (write_at (tally_place w) 9 (λ c. pack_tally (I.class c))
    (write_at (counts_place w) 9 (λ c. pack_counts (I.class c))
    (set_word s 0 (pack_header (header_of w P I.free_pages I.first_run))))))

-- s with the peaks f, where class records have a third word: they lie beneath the image, which does not have them
unfoldable pub with_peaks : (w : ℕ) (f : (ℕ → ℕ)) (s : List ℕ) → List ℕ
with_peaks w f s = pick (ltb 2 w) (write_at (peak_place w) 9 (λ c. pack_peak (f c)) s) s

-- two images show the same for P pages
pub record Same (P : ℕ) (I J : Image) : Type 0 where
  pub free_pages : I.free_pages ≡ J.free_pages
  pub first_run : I.first_run ≡ J.first_run
  pub class : (c : ℕ) → c < 9 → I.class c ≡ J.class c
  pub map : (p : ℕ) → p < P → I.map p ≡ J.map p
  pub links : (p : ℕ) → p < P → I.links p ≡ J.links p
