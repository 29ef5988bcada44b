-- The nine chunk classes, the marks of a page, and what a size asks for.
use Rattle.std.specs.Prelude.{Bool, cond, ◌&&◌, not, ℕ, zero, suc, ◌+◌, ◌-◌, ◌/◌, ◌%◌, ◌^◌, eqb, leb}
use Rattle.base.specs.Search.{least, any}

-- the most pages of a pool
abbrev pub max_pages : ℕ
max_pages = 4096

-- ---- classes 0 to 8, for chunks of 8 to 2,048 bytes

-- the bytes of a chunk
unfoldable pub chunk : ℕ → ℕ
chunk c = 2 ^ (c + 3)

-- the chunks that a page is cut into
unfoldable pub chunks : ℕ → ℕ
chunks c = 2 ^ (9 - c)

-- the chunks that the bitmap itself takes: classes 8, 16 and 32 keep it at the start of the page
unfoldable pub own : ℕ → ℕ
own zero = 8
own (suc zero) = 2
own (suc (suc zero)) = 1
own (suc (suc (suc c))) = 0

-- the chunks of a page that `total` counts (rule 6): those that serve callers
unfoldable pub counted : ℕ → ℕ
counted c = chunks c - own c

-- ---- the marks of a class page: a set mark is a chunk in use

-- the lowest clear mark; the number of chunks where there is none
unfoldable pub lowest : (c : ℕ) (m : (ℕ → Bool)) → ℕ
lowest c m = least (λ i. not (m i)) (chunks c)

unfoldable pub has_clear : (c : ℕ) (m : (ℕ → Bool)) → Bool
has_clear c m = any (λ i. not (m i)) (chunks c)

-- a caller holds a chunk
unfoldable pub has_taken : (c : ℕ) (m : (ℕ → Bool)) → Bool
has_taken c m = any (λ i. leb (own c) i && m i) (chunks c)

-- a new page's marks: the bitmap's own, and the first chunk after them
unfoldable pub new_marks : (c i : ℕ) → Bool
new_marks c i = leb i (own c)

-- q bytes into a page of class c a chunk begins that is not the bitmap's
unfoldable pub starts_chunk : (c q : ℕ) → Bool
starts_chunk c q = eqb (q % chunk c) 0 && leb (own c) (q / chunk c)

-- ---- sizes

-- the smallest class whose chunk holds n bytes, for n from 1 to 2,048
unfoldable pub class_of : ℕ → ℕ
class_of n = least (λ c. leb n (chunk c)) 9

-- n / 4,096 rounded up
unfoldable pub pages_for : ℕ → ℕ
pages_for n = (n + 4095) / 4096

-- what a size asks for: nothing, a chunk of a class, or so many pages
pub data Need : Type 0 where
  nothing : Need
  chunk_of : ℕ → Need
  pages : ℕ → Need

unfoldable pub need_of : ℕ → Need
need_of n = cond (eqb n 0) nothing (cond (leb n 2048) (chunk_of (class_of n)) (pages (pages_for n)))
