-- Alloc on sound records, in the bytes of a pool of P pages: what is answered and what is left, in the order of the code.
use Rattle.std.specs.Prelude.{ℕ, ◌+◌, ◌*◌, ◌%◌, Bool, false, List, ◌==◌, nat_le, nat_lt}
use Rattle.base.specs.Tests.{pick}
use Rattle.records.specs.Layout.{no_page}
use Rattle.answers.specs.Outcome.{Outcome, granted, refused}
use Rattle.answers.specs.declared.Refusal.TheVariants.{NoRoom, NothingAsked}
use Rattle.model.specs.Classes.{chunk, own, pages_for}
use Rattle.maps.specs.Mirror.{lowest_clear}
use Rattle.lists.specs.Mirror.{first_of}
use Rattle.rules.specs.Bytes.{map_base}
use Rattle.map_count.specs.Mirror.{map_bits}
use Rattle.run_extents.specs.Mirror.{fit_in, run_taken}
use Rattle.classes.specs.Mirror.{chunk_refused}
use Rattle.class_peaks.specs.Mirror.{peak_raised}
use Rattle.chunks.specs.Mirror.{chunk_taken, page_cut}
use Rattle.sizes.specs.Mirror.{class_for}

-- ---- a chunk of class c

-- of page p
unfoldable pub lowest_on : (w : ℕ) (s : List ℕ) (P c p : ℕ) → ℕ
lowest_on w s P c p = lowest_clear s (map_base w P p c) (map_bits c)

unfoldable pub chunk_outcome : (w : ℕ) (s : List ℕ) (P c p : ℕ) → Outcome
chunk_outcome w s P c p = granted (4096 * p + chunk c * lowest_on w s P c p)

unfoldable pub chunk_slice : (w : ℕ) (s : List ℕ) (P c p : ℕ) → List ℕ
chunk_slice w s P c p = chunk_taken w s P c p (lowest_on w s P c p)

-- of a new page p, where there is one
unfoldable pub first_outcome : (c p : ℕ) → Outcome
first_outcome c p = granted (4096 * p + chunk c * own c)

unfoldable pub cut_outcome : (c p : ℕ) → Outcome
cut_outcome c p = pick (p == no_page) (refused NoRoom) (first_outcome c p)

unfoldable pub cut_slice : (w : ℕ) (s : List ℕ) (P c p : ℕ) → List ℕ
cut_slice w s P c p = pick (p == no_page) (chunk_refused w s c) (page_cut w s P c p)

unfoldable pub new_outcome : (w : ℕ) (s : List ℕ) (P c : ℕ) → Outcome
new_outcome w s P c = cut_outcome c (fit_in w s P 1)

unfoldable pub new_slice : (w : ℕ) (s : List ℕ) (P c : ℕ) → List ℕ
new_slice w s P c = cut_slice w s P c (fit_in w s P 1)

-- of the class list's first page p, or a new one where that is none of the pages
unfoldable pub from_outcome : (w : ℕ) (s : List ℕ) (P c p : ℕ) → Outcome
from_outcome w s P c p = pick (nat_lt p P) (chunk_outcome w s P c p) (new_outcome w s P c)

unfoldable pub from_slice : (w : ℕ) (s : List ℕ) (P c p : ℕ) → List ℕ
from_slice w s P c p = pick (nat_lt p P) (chunk_slice w s P c p) (new_slice w s P c)

unfoldable pub class_outcome : (w : ℕ) (s : List ℕ) (P c : ℕ) → Outcome
class_outcome w s P c = from_outcome w s P c (first_of w s (1 + c))

unfoldable pub class_slice : (w : ℕ) (s : List ℕ) (P c : ℕ) → List ℕ
class_slice w s P c = from_slice w s P c (first_of w s (1 + c))

-- the class's peak follows
unfoldable pub small_slice : (w : ℕ) (s : List ℕ) (P c : ℕ) → List ℕ
small_slice w s P c = peak_raised w (class_slice w s P c) c

-- ---- k pages

unfoldable pub run_outcome : ℕ → Outcome
run_outcome p = pick (p == no_page) (refused NoRoom) (granted (4096 * p))

unfoldable pub run_slice : (w : ℕ) (s : List ℕ) (k p : ℕ) → List ℕ
run_slice w s k p = pick (p == no_page) s (run_taken w s p (k % 65536))

unfoldable pub pages_outcome : (w : ℕ) (s : List ℕ) (P k : ℕ) → Outcome
pages_outcome w s P k = run_outcome (fit_in w s P k)

unfoldable pub pages_slice : (w : ℕ) (s : List ℕ) (P k : ℕ) → List ℕ
pages_slice w s P k = run_slice w s k (fit_in w s P k)

-- ---- a size

unfoldable pub alloc_outcome : (w : ℕ) (s : List ℕ) (P n : ℕ) → Outcome
alloc_outcome w s P n = pick (n == 0) (refused NothingAsked) (pick (nat_le n 2048) (class_outcome w s P (class_for n)) (pages_outcome w s P (pages_for n)))

-- a chunk of the size's class
unfoldable pub takes_chunk : ℕ → Bool
takes_chunk n = pick (n == 0) false (nat_le n 2048)

-- where no page on a list serves the size
unfoldable pub runs_outcome : (w : ℕ) (s : List ℕ) (P n : ℕ) → Outcome
runs_outcome w s P n = pick (n == 0) (refused NothingAsked) (pick (nat_le n 2048) (new_outcome w s P (class_for n)) (pages_outcome w s P (pages_for n)))

unfoldable pub runs_slice : (w : ℕ) (s : List ℕ) (P n : ℕ) → List ℕ
runs_slice w s P n = pick (n == 0) s (pick (nat_le n 2048) (new_slice w s P (class_for n)) (pages_slice w s P (pages_for n)))

-- all but the peak
unfoldable pub take_slice : (w : ℕ) (s : List ℕ) (P n : ℕ) → List ℕ
take_slice w s P n = pick (n == 0) s (pick (nat_le n 2048) (class_slice w s P (class_for n)) (pages_slice w s P (pages_for n)))

-- the peak alone, of the class that serves the size
unfoldable pub peak_for : (w : ℕ) (s : List ℕ) (n : ℕ) → List ℕ
peak_for w s n = pick (n == 0) s (pick (nat_le n 2048) (peak_raised w s (class_for n)) s)

unfoldable pub alloc_slice : (w : ℕ) (s : List ℕ) (P n : ℕ) → List ℕ
alloc_slice w s P n = pick (n == 0) s (pick (nat_le n 2048) (small_slice w s P (class_for n)) (pages_slice w s P (pages_for n)))

-- ---- an answer in 32 bits: an offset, or one of two numbers past every offset

unfoldable pub outcome_of : ℕ → Outcome
outcome_of x = pick (nat_lt x 4294967294) (granted x) (pick (x == 4294967294) (refused NothingAsked) (refused NoRoom))
