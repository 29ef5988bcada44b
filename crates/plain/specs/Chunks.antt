-- Chunks handed out and back, on the plain state. Each operation is told twice: the tables that it leaves, and the bytes of the chunks.
use Rattle.std.specs.Prelude.{Bool, List, ℕ, ◌+◌, ◌*◌, ◌/◌, ◌%◌, eqb, leb, get_or, set}
use Rattle.base.specs.Tests.{pick}
use Rattle.model.specs.Classes.{own}
use Rattle.model.specs.Calls.{raise}
use Rattle.plain.specs.Arrays.{remade, pushed}
use Rattle.plain.specs.Table.{vacant, carved_at}
use Rattle.plain.specs.Plain.{Plain, page_count, no_counts}
use Rattle.plain.specs.Pages.{pages_freed}
use Rattle.plain.specs.declared.Counts.{Counts}

-- ---- bytes of chunks

-- the byte x of the slice after page p became a new page of class c
unfoldable pub new_byte : ℕ → ℕ → ℕ → ℕ → ℕ
new_byte p c x y = pick (eqb (x / 512) p) (pick (leb (x % 512) (own c)) 1 0) y

unfoldable pub new_bytes : List ℕ → ℕ → ℕ → List ℕ
new_bytes b p c = remade (new_byte p c) 0 b

-- chunk i of page p marked with v
unfoldable pub with_byte : List ℕ → ℕ → ℕ → ℕ → List ℕ
with_byte b p i v = set b (512 * p + i) v

-- ---- the list of pages with a free chunk

unfoldable pub is_no_page : ℕ → Bool
is_no_page x = leb page_count x

-- page p becomes the head
unfoldable pub listed_first : ℕ → List ℕ → List ℕ
listed_first p t = pushed is_no_page p t

-- page p leaves an empty place
unfoldable pub unlisted : ℕ → List ℕ → List ℕ
unlisted p t = remade (λ j x. pick (eqb x p) 255 x) 0 t

-- ---- asks and failures

unfoldable pub asked_counts : Counts → Counts
asked_counts t = record { used = t.used; total = t.total; reqs = raise t.reqs; fails = t.fails }

unfoldable pub failed_counts : Counts → Counts
failed_counts t = record { used = t.used; total = t.total; reqs = raise t.reqs; fails = raise t.fails }

unfoldable pub count_ask : List Counts → ℕ → List Counts
count_ask t c = set t c (asked_counts (get_or t c no_counts))

unfoldable pub count_failure : List Counts → ℕ → List Counts
count_failure t c = set t c (failed_counts (get_or t c no_counts))

-- ---- chunks handed out

-- a chunk of class c refused
unfoldable pub chunk_refused : Plain → ℕ → Plain
chunk_refused s c = record { runs = s.runs; pages = s.pages; ready = s.ready; counts = count_failure s.counts c; free = s.free }

-- the first page of the run at place i becomes a page of class c, and the head of the list; the bytes are `new_bytes`
unfoldable pub page_cut : Plain → ℕ → ℕ → Plain
page_cut s c i = record {
  runs = carved_at i 1 s.runs;
  pages = set s.pages (get_or s.runs i vacant).first (record { kind = 1; class = c; run = 0 });
  ready = listed_first (get_or s.runs i vacant).first s.ready;
  counts = count_ask s.counts c;
  free = s.free;
}

-- a chunk of page p, of class c, is handed out; `clear` tells whether another is free. The bytes are `with_byte` of 1
unfoldable pub chunk_taken : Plain → ℕ → ℕ → Bool → Plain
chunk_taken s c p clear = record {
  runs = s.runs;
  pages = s.pages;
  ready = pick clear s.ready (unlisted p s.ready);
  counts = count_ask s.counts c;
  free = s.free;
}

-- ---- chunks that come back

-- the page stays a class page; `clear` tells whether a chunk was free before
unfoldable pub chunk_back : Plain → ℕ → Bool → Plain
chunk_back s p clear = record { runs = s.runs; pages = s.pages; ready = pick clear s.ready (listed_first p s.ready); counts = s.counts; free = s.free }

-- the page's last chunk came back: it leaves the list and becomes free
unfoldable pub page_dropped : Plain → ℕ → Plain
page_dropped s p = pages_freed (record { runs = s.runs; pages = s.pages; ready = unlisted p s.ready; counts = s.counts; free = s.free }) p 1

-- a chunk of page p comes back; `clear` tells whether a chunk was free before, `left` whether callers hold others of the page
unfoldable pub chunk_freed : Plain → ℕ → Bool → Bool → Plain
chunk_freed s p clear left = pick left (chunk_back s p clear) (page_dropped s p)
