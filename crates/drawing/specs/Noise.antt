-- What of a pool is not a caller's: its length, header, records and maps.
use Rattle.std.specs.Prelude.{◌≡◌, List, ℕ, ◌+◌, ◌*◌, ◌<◌, length, get_or}
use Rattle.records.specs.Layout.{pages_from}
use Rattle.model.specs.Classes.{chunks}
use Rattle.rules.specs.Fields.{kind, class}
use Rattle.rules.specs.Bytes.{pages_in, fields_of}

-- t differs from s in callers' bytes and in the tail alone: in pages, outside the maps of classes 8, 16 and 32
pub record SameRecords (w : ℕ) (s t : List ℕ) : Type 0 where
  pub lengths : length s ≡ length t
  pub records : (i : ℕ) → i < pages_from w (pages_in w s) → get_or s i 0 ≡ get_or t i 0
  pub maps : (p : ℕ) → p < pages_in w s → kind (fields_of w s) p ≡ 2 → class (fields_of w s) p < 3 → (j : ℕ) → 8 * j < chunks (class (fields_of w s) p) →
      get_or s (pages_from w (pages_in w s) + 4096 * p + j) 0 ≡ get_or t (pages_from w (pages_in w s) + 4096 * p + j) 0
