-- What a pool shows in its records: free runs and class pages in the page records, chunk maps where they are kept, used and total in the
-- class records.
use Rattle.std.specs.Prelude.{ℕ, List, ltb}
use Rattle.base.specs.Tests.{pick}
use Rattle.model.specs.State.{marks_of}
use Rattle.model.specs.View.{View, kind_of}
use Rattle.rules.specs.Fields.{Fields, run, page_at}
use Rattle.rules.specs.Read.{is_head}
use Rattle.rules.specs.Bytes.{pages_in, fields_of}

unfoldable pub field_view : (v : Fields) (n : ℕ) → View
field_view v n = record {
  size = n;
  free_run = λ p. pick (is_head v n p) (run v p) 0;
  page = λ p. kind_of (page_at v n p);
  mark = λ p i. marks_of (page_at v n p) i;
  used = λ c. pick (ltb c 9) (v.image.class c).used 0;
  total = λ c. pick (ltb c 9) (v.image.class c).total 0;
}

unfoldable pub shown_by : (w : ℕ) (s : List ℕ) → View
shown_by w s = field_view (fields_of w s) (pages_in w s)
