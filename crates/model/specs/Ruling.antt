-- How the table of refusals and its order (SPEC 5, 4.7) rule a call, read on a view.
use Rattle.std.specs.Prelude.{Bool, cond, ◌&&◌, ◌||◌, not, ℕ, ◌*◌, ◌/◌, ◌%◌, eqb, leb}
use Rattle.base.specs.Search.{any}
use Rattle.model.specs.Classes.{chunk, chunks, starts_chunk, Need, nothing, chunk_of, pages, need_of}
use Rattle.model.specs.Calls.{Call, Alloc, Free, Answer, at, freed, no, no_room, outside, not_taken, not_a_start, nothing_asked}
use Rattle.model.specs.View.{Kind, vacant, class, run_of, within, View, is_vacant, is_class}

pub data Verdict : Type 0 where
  granted : Verdict
  refused : ℕ → Verdict

abbrev pub verdict : Answer → Verdict
verdict (at off) = granted
verdict (freed n) = granted
verdict (no k) = refused k

-- a page of class c has a clear mark
unfoldable pub clear_in : (v : View) (c : ℕ) → Bool
clear_in v c = any (λ p. is_class c (v.page p) && any (λ i. not (v.mark p i)) (chunks c)) v.size

-- a page is free
unfoldable pub page_in : View → Bool
page_in v = any (λ p. is_vacant (v.page p)) v.size

-- a free run has k pages
unfoldable pub run_in : (v : View) (k : ℕ) → Bool
run_in v k = any (λ p. leb k (v.free_run p)) v.size

unfoldable pub alloc_ruling : View → Need → Verdict
alloc_ruling v nothing = refused nothing_asked
alloc_ruling v (chunk_of c) = cond (clear_in v c || page_in v) granted (refused no_room)
alloc_ruling v (pages k) = cond (run_in v k) granted (refused no_room)

-- the offset lies q bytes into page p
unfoldable pub free_ruling : View → ℕ → ℕ → Kind → Verdict
free_ruling v p q vacant = refused not_taken
free_ruling v p q (class c) =
    cond (starts_chunk c q)
    (cond (v.mark p (q / chunk c)) granted (refused not_taken))
    (refused not_a_start)
free_ruling v p q (run_of n) = cond (eqb q 0) granted (refused not_a_start)
free_ruling v p q within = refused not_a_start

-- the offset lies past the last page
unfoldable pub past_end : (v : View) (off : ℕ) → Bool
past_end v off = leb (4096 * v.size) off

unfoldable pub ruling : View → Call → Verdict
ruling v (Alloc n) = alloc_ruling v (need_of n)
ruling v (Free off) =
    cond (past_end v off) (refused outside)
    (free_ruling v (off / 4096) (off % 4096) (v.page (off / 4096)))
