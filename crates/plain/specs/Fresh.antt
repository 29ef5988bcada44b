-- What format leaves: one free run of 12 pages.
use Rattle.std.specs.Prelude.{List, ◌∷◌, replicate}
use Rattle.plain.specs.declared.Extent.{Extent}
use Rattle.plain.specs.declared.Kept.{Kept}
use Rattle.plain.specs.Table.{vacant}
use Rattle.plain.specs.Plain.{Plain, plain_of, page_count, free_entry, no_counts}

abbrev pub fresh_runs : List Extent
fresh_runs = record { first = 0; len = page_count } ∷ replicate 11 vacant

abbrev pub kept_fresh : Kept
kept_fresh = record {
  pages = replicate 12 free_entry;
  ready = replicate 12 255;
  counts = replicate 9 no_counts;
  free = page_count;
}

unfoldable pub plain_fresh : Plain
plain_fresh = plain_of kept_fresh fresh_runs
