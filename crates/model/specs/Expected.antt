-- The expected view (SPEC 6.3): the five as the page count and the live set alone say them.
use Rattle.std.specs.Prelude.{Bool, false, cond, ◌&&◌, ◌||◌, not, List, [], ◌∷◌, ℕ, zero, suc, ◌+◌, ◌*◌, ◌/◌, eqb, leb, ltb}
use Rattle.base.specs.Search.{least}
use Rattle.base.specs.Count.{bit}
use Rattle.base.specs.Lists.{has}
use Rattle.model.specs.Classes.{chunk, chunks, own}
use Rattle.model.specs.Live.{Block, small, large, offset}
use Rattle.model.specs.View.{Kind, vacant, class, run_of, within, View, is_vacant, total_in}

-- the block begins in page p and is a chunk, or page p is one of its pages
unfoldable pub covers : Block → ℕ → Bool
covers (small off c) p = eqb (off / 4096) p
covers (large off n) p = leb (off / 4096) p && ltb p (off / 4096 + n)

-- what it makes of page p
unfoldable pub kind_in : Block → ℕ → Kind
kind_in (small off c) p = class c
kind_in (large off n) p = cond (eqb (off / 4096) p) (run_of n) within

abbrev pub kind_at : List Block → ℕ → Kind
kind_at [] p = vacant
kind_at (e ∷ B) p = cond (covers e p) (kind_in e p) (kind_at B p)

-- page p of P pages is free
unfoldable pub free_page : (P : ℕ) (B : List Block) (p : ℕ) → Bool
free_page P B p = ltb p P && is_vacant (kind_at B p)

-- a free page borders page p from below
unfoldable pub after_free : (ℕ → Bool) → ℕ → Bool
after_free g zero = false
after_free g (suc p) = g p

-- the length of the stretch of free pages that starts at p, among P pages; 0 where none does
unfoldable pub stretch_at : (P : ℕ) (g : (ℕ → Bool)) (p : ℕ) → ℕ
stretch_at P g p = cond (after_free g p) 0 (least (λ j. not (g (p + j))) P)

-- a block begins at the offset
abbrev pub begins : (B : List Block) (off : ℕ) → Bool
begins B off = has (λ e. eqb (offset e) off) B

-- the marks of page p: the bitmap's own chunks, and those where a live block begins
unfoldable pub mark_in : List Block → ℕ → Kind → ℕ → Bool
mark_in B p vacant i = false
mark_in B p (class c) i = ltb i (chunks c) && (ltb i (own c) || begins B (4096 * p + chunk c * i))
mark_in B p (run_of n) i = false
mark_in B p within i = false

abbrev pub of_class : ℕ → Block → Bool
of_class c (small off d) = eqb d c
of_class c (large off n) = false

-- the number of live blocks of class c
abbrev pub used_in : List Block → ℕ → ℕ
used_in [] c = 0
used_in (e ∷ B) c = used_in B c + bit (of_class c e)

unfoldable pub expected : (P : ℕ) (B : List Block) → View
expected P B = record {
  size = P;
  free_run = stretch_at P (free_page P B);
  page = kind_at B;
  mark = λ p i. mark_in B p (kind_at B p) i;
  used = used_in B;
  total = total_in (kind_at B) P;
}
