-- What the pass over the pages leaves: the n pages are well shaped, and the counters t are theirs.
use Rattle.std.specs.Prelude.{◌≡◌, true, List, ℕ, ◌≤◌}
use Rattle.rules.specs.Rules.{shape}
use Rattle.rules.specs.Bytes.{pages_in, fields_of}
use Rattle.validate_pages.specs.Mirror.{Counted}

pub record Scanned (w : ℕ) (s : List ℕ) (n : ℕ) (t : List ℕ) : Type 0 where
  pub pages : n ≡ pages_in w s
  pub most : n ≤ 4096
  pub fits : shape (fields_of w s) n ≡ true
  pub counted : Counted (fields_of w s) n n t
