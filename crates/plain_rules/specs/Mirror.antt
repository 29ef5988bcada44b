-- Rules 2 to 6 in the order of the code: of what is kept by value, and of the table of free runs.
use Rattle.std.specs.Prelude.{Bool, false, List, [], ◌∷◌, ℕ, eqb, get_or}
use Rattle.base.specs.Tests.{pick, all_of, all_below}
use Rattle.plain.specs.Arrays.{remade}
use Rattle.plain.specs.Table.{vacant}
use Rattle.plain.specs.Plain.{page_count, free_entry, no_counts}
use Rattle.plain.specs.declared.Extent.{Extent}
use Rattle.plain.specs.declared.PageEntry.{PageEntry}
use Rattle.plain.specs.declared.Kept.{Kept}
use Rattle.plain_rules.specs.Counts.{class_recounted, free_in}
use Rattle.plain_rules.specs.Rules.{kind_ok, runs_ok, extent_ok, list_ok, counts_ok}

-- of entry p of the table, and of page p
unfoldable pub entry_ok : (t : List PageEntry) (runs : List Extent) (p : ℕ) → Bool
entry_ok t runs p = pick (runs_ok t runs p) (extent_ok t (get_or runs p vacant)) false

unfoldable pub table_ok : (t : List PageEntry) (runs : List Extent) → Bool
table_ok t runs = all_below (entry_ok t runs) page_count

unfoldable pub kept_page_ok : (t : List PageEntry) (ready b : List ℕ) (p : ℕ) → Bool
kept_page_ok t ready b p = pick (kind_ok t b p (get_or t p free_entry)) (list_ok b ready p (get_or t p free_entry)) false

unfoldable pub kept_sound : (s : Kept) (b : List ℕ) → Bool
kept_sound s b = all_of (
    all_below (kept_page_ok s.pages s.ready b) page_count ∷
    eqb s.free (free_in s.pages) ∷
    all_below (λ c. counts_ok s.pages b c (get_or s.counts c no_counts)) 9 ∷ [])

unfoldable pub kept_recounted : (s : Kept) (b : List ℕ) → Kept
kept_recounted s b = record {
  pages = s.pages;
  ready = s.ready;
  counts = remade (class_recounted s.pages b) 0 s.counts;
  free = free_in s.pages;
}
