-- Alloc and free on the plain state: the answer with the tables that they leave, and the bytes of the chunks.
use Rattle.std.specs.Prelude.{Bool, false, List, ℕ, ◌+◌, ◌*◌, ◌/◌, ◌%◌, eqb, leb, ltb, get_or}
use Rattle.base.specs.Tests.{pick}
use Rattle.model.specs.Classes.{chunk, own, lowest, has_clear, has_taken, starts_chunk, class_of, pages_for}
use Rattle.model.specs.Calls.{Answer, at, freed, no}
use Rattle.plain.specs.Arrays.{place_of}
use Rattle.plain.specs.Table.{vacant, wrap, first_fit}
use Rattle.plain.specs.Plain.{Plain, Served, page_count, entry_at, mark_of}
use Rattle.plain.specs.Pages.{pages_freed, refused, granted, alloc_pages}
use Rattle.plain.specs.Chunks.{new_bytes, with_byte, is_no_page, chunk_refused, page_cut, chunk_taken, chunk_freed}

-- what an answer says: document 01's number, or the offset, or the bytes released
unfoldable pub alloc_answer : Served → Answer
alloc_answer r = pick (eqb r.number 0) (at r.value) (no r.number)

unfoldable pub free_answer : Served → Answer
free_answer r = pick (eqb r.number 0) (freed r.value) (no r.number)

-- ---- alloc

-- a listed page of class c
unfoldable pub is_ready : Plain → ℕ → ℕ → Bool
is_ready s c p = pick (is_no_page p) false (eqb (entry_at s p).class c)

-- the first page of class c with a free chunk; none is past the pages
unfoldable pub ready_page : Plain → ℕ → ℕ
ready_page s c = get_or s.ready (place_of (is_ready s c) s.ready) 255

-- the offset of chunk i of page p
unfoldable pub chunk_offset : ℕ → ℕ → ℕ → ℕ
chunk_offset p c i = wrap (4096 * p + chunk c * i)

-- a chunk of a new page, the first of the run at place i; there is none past the table's end
unfoldable pub from_run : Plain → ℕ → ℕ → Served
from_run s c i =
    pick (ltb i page_count) (granted (page_cut s c i) (chunk_offset (get_or s.runs i vacant).first c (own c)))
    (refused (chunk_refused s c) 4)

unfoldable pub from_run_bytes : Plain → List ℕ → ℕ → ℕ → List ℕ
from_run_bytes s b c i = pick (ltb i page_count) (new_bytes b (get_or s.runs i vacant).first c) b

-- chunk i of page p, of class c
unfoldable pub from_page : Plain → List ℕ → ℕ → ℕ → ℕ → Served
from_page s b c p i = granted (chunk_taken s c p (has_clear c (mark_of (with_byte b p i 1) p c))) (chunk_offset p c i)

-- a chunk of class c, where p is the first page with a free one
unfoldable pub alloc_chunk : Plain → List ℕ → ℕ → ℕ → Served
alloc_chunk s b c p = pick (is_no_page p) (from_run s c (first_fit 1 s.runs)) (from_page s b c p (lowest c (mark_of b p c)))

unfoldable pub alloc_chunk_bytes : Plain → List ℕ → ℕ → ℕ → List ℕ
alloc_chunk_bytes s b c p = pick (is_no_page p) (from_run_bytes s b c (first_fit 1 s.runs)) (with_byte b p (lowest c (mark_of b p c)) 1)

unfoldable pub plain_alloc : Plain → List ℕ → ℕ → Served
plain_alloc s b n =
    pick (eqb n 0) (refused s 10)
    (pick (leb n 2048) (alloc_chunk s b (class_of n) (ready_page s (class_of n))) (alloc_pages s (pages_for n)))

unfoldable pub plain_alloc_bytes : Plain → List ℕ → ℕ → List ℕ
plain_alloc_bytes s b n = pick (eqb n 0) b (pick (leb n 2048) (alloc_chunk_bytes s b (class_of n) (ready_page s (class_of n))) b)

-- ---- free

-- chunk i of page p, of class c, comes back: whether a chunk was free before, and whether callers hold others of the page
unfoldable pub free_marked : Plain → List ℕ → ℕ → ℕ → ℕ → Served
free_marked s b p c i =
    granted (chunk_freed s p (has_clear c (mark_of b p c)) (has_taken c (mark_of (with_byte b p i 0) p c))) (chunk c)

-- q bytes into page p, of class c
unfoldable pub free_chunk_at : Plain → List ℕ → ℕ → ℕ → ℕ → Served
free_chunk_at s b p c q =
    pick (starts_chunk c q)
    (pick (mark_of b p c (q / chunk c)) (free_marked s b p c (q / chunk c)) (refused s 6))
    (refused s 7)

-- the byte of the chunk is cleared
unfoldable pub free_chunk_bytes : List ℕ → ℕ → ℕ → ℕ → List ℕ
free_chunk_bytes b p c q =
    pick (starts_chunk c q)
    (pick (mark_of b p c (q / chunk c)) (with_byte b p (q / chunk c) 0) b)
    b

-- q bytes into the first page of a taken run of n pages
unfoldable pub free_run_at : Plain → ℕ → ℕ → ℕ → Served
free_run_at s p n q = pick (eqb q 0) (granted (pages_freed s p n) (wrap (4096 * n))) (refused s 7)

-- q bytes into page p, whose kind is k
unfoldable pub free_kind : Plain → List ℕ → ℕ → ℕ → ℕ → Served
free_kind s b p q k =
    pick (eqb k 0) (refused s 6)
    (pick (eqb k 1) (free_chunk_at s b p (entry_at s p).class q)
    (pick (eqb k 2) (free_run_at s p (entry_at s p).run q) (refused s 7)))

unfoldable pub free_kind_bytes : Plain → List ℕ → ℕ → ℕ → ℕ → List ℕ
free_kind_bytes s b p q k = pick (eqb k 0) b (pick (eqb k 1) (free_chunk_bytes b p (entry_at s p).class q) b)

unfoldable pub free_in : Plain → List ℕ → ℕ → ℕ → Served
free_in s b p q = pick (ltb p page_count) (free_kind s b p q (entry_at s p).kind) (refused s 5)

unfoldable pub free_in_bytes : Plain → List ℕ → ℕ → ℕ → List ℕ
free_in_bytes s b p q = pick (ltb p page_count) (free_kind_bytes s b p q (entry_at s p).kind) b

unfoldable pub plain_free : Plain → List ℕ → ℕ → Served
plain_free s b off = free_in s b (off / 4096) (off % 4096)

unfoldable pub plain_free_bytes : Plain → List ℕ → ℕ → List ℕ
plain_free_bytes s b off = free_in_bytes s b (off / 4096) (off % 4096)
