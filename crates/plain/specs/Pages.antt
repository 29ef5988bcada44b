-- Pages taken and released, on the plain state.
use Rattle.std.specs.Prelude.{ℕ, ◌+◌, ◌*◌, eqb, leb, ltb, get_or}
use Rattle.base.specs.Tests.{pick}
use Rattle.plain.specs.Arrays.{remade}
use Rattle.plain.specs.Table.{vacant, wrap, first_fit, carved_at, released}
use Rattle.plain.specs.Plain.{Plain, Served, page_count, free_entry}
use Rattle.plain.specs.declared.PageEntry.{PageEntry}

-- the entry of page j after the k pages from p on became a taken run
unfoldable pub taken_at : ℕ → ℕ → ℕ → PageEntry → PageEntry
taken_at p k j e =
    pick (eqb j p) (record { kind = 2; class = 0; run = k })
    (pick (leb p j) (pick (ltb j (p + k)) (record { kind = 3; class = 0; run = 0 }) e) e)

-- the entry of page j after they became free
unfoldable pub freed_at : ℕ → ℕ → ℕ → PageEntry → PageEntry
freed_at p k j e = pick (leb p j) (pick (ltb j (p + k)) free_entry e) e

-- the front k pages of the run at place i of the table become a taken run
unfoldable pub run_taken : Plain → ℕ → ℕ → Plain
run_taken s k i = record {
  runs = carved_at i k s.runs;
  pages = remade (taken_at (get_or s.runs i vacant).first k) 0 s.pages;
  ready = s.ready;
  counts = s.counts;
  free = s.free;
}

-- the k pages from p on become free
unfoldable pub pages_freed : Plain → ℕ → ℕ → Plain
pages_freed s p k = record {
  runs = released p k s.runs;
  pages = remade (freed_at p k) 0 s.pages;
  ready = s.ready;
  counts = s.counts;
  free = s.free;
}

-- ---- answers: the number of the refusal, 0 where granted, and the value

unfoldable pub refused : Plain → ℕ → Served
refused s n = record { after = s; number = n; value = 0 }

unfoldable pub granted : Plain → ℕ → Served
granted s v = record { after = s; number = 0; value = v }

-- the offset of page p
unfoldable pub offset_of : ℕ → ℕ
offset_of p = wrap (4096 * p)

-- alloc of k pages from the run at place i of the table; there is none past its end
unfoldable pub alloc_at : Plain → ℕ → ℕ → Served
alloc_at s k i = pick (ltb i page_count) (granted (run_taken s k i) (offset_of (get_or s.runs i vacant).first)) (refused s 4)

-- alloc of k pages
unfoldable pub alloc_pages : Plain → ℕ → Served
alloc_pages s k = alloc_at s k (first_fit k s.runs)
