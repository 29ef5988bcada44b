-- The operations on what is kept by value, in the order of the code. What the table of free runs suffers is told with the answer.
use Rattle.std.specs.Prelude.{Bool, false, List, ℕ, ◌/◌, ◌%◌, eqb, leb, ltb, get_or, set}
use Rattle.base.specs.Tests.{pick}
use Rattle.model.specs.Classes.{chunk, own, lowest, has_clear, has_taken, starts_chunk, class_of, pages_for}
use Rattle.plain.specs.Arrays.{remade, place_of}
use Rattle.plain.specs.Table.{is_vacant, carved_at, released}
use Rattle.plain.specs.Plain.{Served, plain_of, page_count, free_entry, mark_of}
use Rattle.plain.specs.Pages.{taken_at, freed_at, offset_of}
use Rattle.plain.specs.Chunks.{new_bytes, with_byte, is_no_page, listed_first, unlisted, count_ask, count_failure}
use Rattle.plain.specs.Engine.{chunk_offset, free_chunk_bytes}
use Rattle.plain.specs.declared.Extent.{Extent}
use Rattle.plain.specs.declared.PageEntry.{PageEntry}
use Rattle.plain.specs.declared.Kept.{Kept}
use Rattle.plain.specs.declared.Answer.{Answer}
use Rattle.plain.specs.declared.Done.{Done}

-- ---- answers

-- granted, with so many pages from p on that leave the table of free runs or come back
unfoldable pub done_with : Kept → ℕ → ℕ → ℕ → Done
done_with s v p k = record { after = s; number = 0; value = v; first = p; len = k }

-- granted, and the table stays
unfoldable pub done_granted : Kept → ℕ → Done
done_granted s v = record { after = s; number = 0; value = v; first = 0; len = 0 }

unfoldable pub done_refused : Kept → ℕ → Done
done_refused s n = record { after = s; number = n; value = 0; first = 0; len = 0 }

abbrev pub answer_of : Done → Answer
answer_of d = record { after = d.after; number = d.number; value = d.value }

-- the entry at place i loses its front k pages; 0 are none
unfoldable pub carved : ℕ → ℕ → List Extent → List Extent
carved i k t = pick (eqb k 0) t (carved_at i k t)

-- the k pages from p on come back; 0 are none
unfoldable pub returned : ℕ → ℕ → List Extent → List Extent
returned p k t = pick (eqb k 0) t (released p k t)

-- an answer with a table of free runs
abbrev pub served_with : Answer → List Extent → Served
served_with a t = record { after = plain_of a.after t; number = a.number; value = a.value }

-- ---- pages

-- the k pages from p on become a taken run
unfoldable pub kept_taken : Kept → ℕ → ℕ → Kept
kept_taken s p k = record { pages = remade (taken_at p k) 0 s.pages; ready = s.ready; counts = s.counts; free = s.free }

-- they become free
unfoldable pub kept_freed : Kept → ℕ → ℕ → Kept
kept_freed s p k = record { pages = remade (freed_at p k) 0 s.pages; ready = s.ready; counts = s.counts; free = s.free }

-- ---- chunks

unfoldable pub kept_refused : Kept → ℕ → Kept
kept_refused s c = record { pages = s.pages; ready = s.ready; counts = count_failure s.counts c; free = s.free }

-- page p becomes a page of class c, and the head of the list
unfoldable pub kept_cut : Kept → ℕ → ℕ → Kept
kept_cut s c p = record {
  pages = set s.pages p (record { kind = 1; class = c; run = 0 });
  ready = listed_first p s.ready;
  counts = count_ask s.counts c;
  free = s.free;
}

unfoldable pub kept_handed : Kept → ℕ → ℕ → Bool → Kept
kept_handed s c p clear = record { pages = s.pages; ready = pick clear s.ready (unlisted p s.ready); counts = count_ask s.counts c; free = s.free }

unfoldable pub kept_back : Kept → ℕ → Bool → Kept
kept_back s p clear = record { pages = s.pages; ready = pick clear s.ready (listed_first p s.ready); counts = s.counts; free = s.free }

unfoldable pub kept_unlisted : Kept → ℕ → Kept
kept_unlisted s p = record { pages = s.pages; ready = unlisted p s.ready; counts = s.counts; free = s.free }

unfoldable pub kept_dropped : Kept → ℕ → Kept
kept_dropped s p = kept_freed (kept_unlisted s p) p 1

-- ---- alloc: e is the first entry with as many pages as are asked for, an empty place where there is none

-- the entry of the page and the class
unfoldable pub class_in : (t : List PageEntry) (c p : ℕ) → Bool
class_in t c p = eqb (get_or t p free_entry).class c

unfoldable pub ready_in : (t : List PageEntry) (c p : ℕ) → Bool
ready_in t c p = pick (is_no_page p) false (class_in t c p)

unfoldable pub kept_ready : Kept → ℕ → ℕ
kept_ready s c = get_or s.ready (place_of (ready_in s.pages c) s.ready) 255

unfoldable pub cut_from : Kept → ℕ → ℕ → Done
cut_from s c p = done_with (kept_cut s c p) (chunk_offset p c (own c)) p 1

unfoldable pub from_entry : Kept → ℕ → Extent → Done
from_entry s c e = pick (is_vacant e) (done_refused (kept_refused s c) 4) (cut_from s c e.first)

unfoldable pub from_entry_bytes : List ℕ → ℕ → Extent → List ℕ
from_entry_bytes b c e = pick (is_vacant e) b (new_bytes b e.first c)

unfoldable pub from_listed : Kept → List ℕ → ℕ → ℕ → ℕ → Done
from_listed s b c p i = done_granted (kept_handed s c p (has_clear c (mark_of (with_byte b p i 1) p c))) (chunk_offset p c i)

unfoldable pub chunk_done : Kept → List ℕ → ℕ → ℕ → Extent → Done
chunk_done s b c p e = pick (is_no_page p) (from_entry s c e) (from_listed s b c p (lowest c (mark_of b p c)))

unfoldable pub chunk_done_bytes : List ℕ → ℕ → ℕ → Extent → List ℕ
chunk_done_bytes b c p e = pick (is_no_page p) (from_entry_bytes b c e) (with_byte b p (lowest c (mark_of b p c)) 1)

unfoldable pub pages_done : Kept → ℕ → Extent → Done
pages_done s k e = pick (is_vacant e) (done_refused s 4) (done_with (kept_taken s e.first k) (offset_of e.first) e.first k)

unfoldable pub kept_alloc : Kept → List ℕ → ℕ → Extent → Done
kept_alloc s b n e =
    pick (eqb n 0) (done_refused s 10)
    (pick (leb n 2048) (chunk_done s b (class_of n) (kept_ready s (class_of n)) e) (pages_done s (pages_for n) e))

unfoldable pub kept_alloc_bytes : Kept → List ℕ → ℕ → Extent → List ℕ
kept_alloc_bytes s b n e = pick (eqb n 0) b (pick (leb n 2048) (chunk_done_bytes b (class_of n) (kept_ready s (class_of n)) e) b)

-- how many pages of a run a size asks the table for
unfoldable pub wanted_pages : ℕ → ℕ
wanted_pages n = pick (leb n 2048) 1 (pages_for n)

-- ---- free

-- a chunk of page p comes back, of so many bytes; `clear` tells whether a chunk was free before, `left` whether callers hold others of the page
unfoldable pub chunk_back_done : Kept → ℕ → ℕ → Bool → Bool → Done
chunk_back_done s p v clear left = pick left (done_granted (kept_back s p clear) v) (done_with (kept_dropped s p) v p 1)

unfoldable pub marked_done : Kept → List ℕ → ℕ → ℕ → ℕ → Done
marked_done s b p c i = chunk_back_done s p (chunk c) (has_clear c (mark_of b p c)) (has_taken c (mark_of (with_byte b p i 0) p c))

-- chunk i of page p, of class c
unfoldable pub chunk_at_done : Kept → List ℕ → ℕ → ℕ → ℕ → Done
chunk_at_done s b p c i = pick (mark_of b p c i) (marked_done s b p c i) (done_refused s 6)

unfoldable pub chunk_at_bytes : List ℕ → ℕ → ℕ → ℕ → List ℕ
chunk_at_bytes b p c i = pick (mark_of b p c i) (with_byte b p i 0) b

-- q bytes into page p, of class c
unfoldable pub class_done : Kept → List ℕ → ℕ → ℕ → ℕ → Done
class_done s b p c q = pick (starts_chunk c q) (chunk_at_done s b p c (q / chunk c)) (done_refused s 7)

-- q bytes into the first page of a taken run of n pages
unfoldable pub run_done : Kept → ℕ → ℕ → ℕ → Done
run_done s p n q = pick (eqb q 0) (done_with (kept_freed s p n) (offset_of n) p n) (done_refused s 7)

-- q bytes into page p, whose entry is e
unfoldable pub kind_done : Kept → List ℕ → ℕ → ℕ → PageEntry → Done
kind_done s b p q e =
    pick (eqb e.kind 0) (done_refused s 6)
    (pick (eqb e.kind 1) (class_done s b p e.class q)
    (pick (eqb e.kind 2) (run_done s p e.run q) (done_refused s 7)))

unfoldable pub kind_done_bytes : List ℕ → ℕ → ℕ → PageEntry → List ℕ
kind_done_bytes b p q e = pick (eqb e.kind 0) b (pick (eqb e.kind 1) (free_chunk_bytes b p e.class q) b)

unfoldable pub in_done : Kept → List ℕ → ℕ → ℕ → Done
in_done s b p q = pick (ltb p page_count) (kind_done s b p q (get_or s.pages p free_entry)) (done_refused s 5)

unfoldable pub in_done_bytes : Kept → List ℕ → ℕ → ℕ → List ℕ
in_done_bytes s b p q = pick (ltb p page_count) (kind_done_bytes b p q (get_or s.pages p free_entry)) b

unfoldable pub kept_free : Kept → List ℕ → ℕ → Done
kept_free s b off = in_done s b (off / 4096) (off % 4096)

unfoldable pub kept_free_bytes : Kept → List ℕ → ℕ → List ℕ
kept_free_bytes s b off = in_done_bytes s b (off / 4096) (off % 4096)
