-- The state that the fields of n pages show.
use Rattle.std.specs.Prelude.{ℕ, zero, suc, Bool, false, List, [], ◌∷◌, eqb, ltb}
use Rattle.base.specs.Tests.{pick}
use Rattle.base.specs.Count.{count}
use Rattle.records.specs.declared.ClassRecord.{ClassRecord}
use Rattle.model.specs.State.{State, Run, Tally, is_open}
use Rattle.rules.specs.Fields.{Fields, kind, run, next, first, page_at}

-- the k pages from p on by next
abbrev pub trail : (ℕ → ℕ) → ℕ → ℕ → List ℕ
trail nx zero p = []
trail nx (suc k) p = p ∷ trail nx k (nx p)

-- page p is the first of a free run
unfoldable pub is_head : (v : Fields) (n p : ℕ) → Bool
is_head v n p = pick (ltb p n) (eqb (kind v p) 1) false

-- page p is of class c and has a clear mark
unfoldable pub open_at : (v : Fields) (n c p : ℕ) → Bool
open_at v n c p = is_open c (page_at v n p)

-- the pages that belong on a list, in list order: their number is known, so the walk ends
unfoldable pub heads_of : (v : Fields) (n : ℕ) → List ℕ
heads_of v n = trail (next v) (count (is_head v n) n) v.image.first_run

unfoldable pub list_of : (v : Fields) (n c : ℕ) → List ℕ
list_of v n c = pick (ltb c 9) (trail (next v) (count (open_at v n c) n) (first v c)) []

abbrev pub with_lengths : (ℕ → ℕ) → List ℕ → List Run
with_lengths len [] = []
with_lengths len (p ∷ ps) = record { start = p; len = len p } ∷ with_lengths len ps

abbrev pub tally_in : ClassRecord → Tally
tally_in r = record { reqs = r.reqs; fails = r.fails }

-- there are no tallies past class 8
unfoldable pub tally_of : (v : Fields) (c : ℕ) → Tally
tally_of v c = pick (ltb c 9) (tally_in (v.image.class c)) (record { reqs = 0; fails = 0 })

unfoldable pub read_fields : (v : Fields) (n : ℕ) → State
read_fields v n = record {
  size = n;
  page = page_at v n;
  runs = with_lengths (run v) (heads_of v n);
  lists = list_of v n;
  tally = tally_of v;
}
