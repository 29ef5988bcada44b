-- The same in the order of the code, on the fields of page records.
use Rattle.std.specs.Prelude.{◌≡◌, Bool, cond, ◌&&◌, ℕ, ◌+◌, ◌*◌, ◌≤◌, List, [], ◌∷◌, eqb, leb}
use Rattle.base.specs.Tests.{pick}
use Rattle.words.specs.Word.{Bytes}
use Rattle.model.specs.Classes.{chunk}
use Rattle.model.specs.Live.{Block, small}
use Rattle.rules.specs.Bytes.{pages_in, broken_rule}
use Rattle.report_lines.specs.Lines.{Span, free_span, taken_span}

-- the image of a sound pool of n pages, twelve at most
pub record Sound (image : List ℕ) (n : ℕ) : Type 0 where
  pub bytes : Bytes image
  pub rules : broken_rule 2 image ≡ 0
  pub pages : n ≡ pages_in 2 image
  pub few : n ≤ 12

-- the run that starts at page p, which is of this kind and says this length
unfoldable pub spans_of : (kind p len : ℕ) → List Span
spans_of kind p len = pick (eqb kind 1) (free_span p len ∷ []) (pick (eqb kind 3) (taken_span p len ∷ []) [])

-- chunk i of page p, where it is taken and not one of the map's own
unfoldable pub marked_chunk : (own : ℕ) (marked : Bool) (p c i : ℕ) → List Block
marked_chunk own marked p c i = cond (leb own i && marked) (small (4096 * p + chunk c * i) c ∷ []) []
