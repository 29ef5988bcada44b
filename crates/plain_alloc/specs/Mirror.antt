-- What alloc relies on.
use Rattle.std.specs.Prelude.{◌≤◌, ◌<◌}
use Rattle.plain.specs.Plain.{page_count}
use Rattle.plain.specs.declared.Extent.{Extent}

-- a run begins within the pages
unfoldable pub Low : Extent → Type 0
Low e = 1 ≤ e.len → e.first < page_count
