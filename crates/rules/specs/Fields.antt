-- What the records of a pool show, field by field. Rules 2 to 6 speak of it and see no byte.
use Rattle.std.specs.Prelude.{ℕ, zero, suc, Bool, ltb}
use Rattle.base.specs.Tests.{pick}
use Rattle.model.specs.State.{Page, idle, slab, taken, inside, edge}
use Rattle.image.specs.Image.{Image}

-- the records; the nine zero bits of page p's record; mark i of page p, wherever its map lies
pub record Fields : Type 0 where
  pub image : Image
  pub spare : ℕ → ℕ
  pub mark : ℕ → ℕ → Bool

-- of page p
abbrev pub kind : (v : Fields) (p : ℕ) → ℕ
kind v p = (v.image.links p).kind

abbrev pub class : (v : Fields) (p : ℕ) → ℕ
class v p = (v.image.links p).class

abbrev pub run : (v : Fields) (p : ℕ) → ℕ
run v p = (v.image.links p).run

abbrev pub next : (v : Fields) (p : ℕ) → ℕ
next v p = (v.image.links p).next.0

abbrev pub prev : (v : Fields) (p : ℕ) → ℕ
prev v p = (v.image.links p).prev.0

abbrev pub map : (v : Fields) (p : ℕ) → ℕ
map v p = v.image.map p

-- of class c
abbrev pub first : (v : Fields) (c : ℕ) → ℕ
first v c = (v.image.class c).first.0

-- what a page is, by its kind
abbrev pub page_of : ℕ → ℕ → ℕ → (ℕ → Bool) → Page
page_of zero class run mark = idle
page_of (suc zero) class run mark = idle
page_of (suc (suc zero)) class run mark = slab class mark
page_of (suc (suc (suc zero))) class run mark = taken run
page_of (suc (suc (suc (suc zero)))) class run mark = inside
page_of (suc (suc (suc (suc (suc k))))) class run mark = edge

-- page p of n
unfoldable pub page_at : (v : Fields) (n p : ℕ) → Page
page_at v n p = pick (ltb p n) (page_of (kind v p) (class v p) (run v p) (v.mark p)) edge
