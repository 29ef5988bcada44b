-- What free relies on.
use Rattle.std.specs.Prelude.{◌≡◌, List, ℕ, ◌≤◌, ◌<◌, get_or}
use Rattle.plain.specs.Plain.{page_count, free_entry}
use Rattle.plain.specs.declared.PageEntry.{PageEntry}

-- a class page has a class
unfoldable pub Classed : PageEntry → Type 0
Classed e = e.kind ≡ 1 → e.class ≤ 8

unfoldable pub AllClassed : List PageEntry → Type 0
AllClassed t = (p : ℕ) → p < page_count → Classed (get_or t p free_entry)
