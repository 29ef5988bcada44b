-- The calls on a state, as SPEC 4 tells them: `fresh` (format), `alloc` and `free`.
use Rattle.std.specs.Prelude.{Bool, true, false, cond, List, [], ◌∷◌, ℕ, suc, ◌+◌, ◌*◌, ◌/◌, ◌%◌, eqb, ltb}
use Rattle.std.proofs.Math.Option.{Option, none, some}
use Rattle.answers.specs.Outcome.{number_of}
use Rattle.answers.specs.declared.Refusal.TheVariants.{NoRoom, Outside, NotTaken, NotAStart, NothingAsked}
use Rattle.base.specs.Functions.{upd, fill}
use Rattle.base.specs.Lists.{keep}
use Rattle.base.specs.Links.{others}
use Rattle.model.specs.Classes.{chunk, own, lowest, has_clear, has_taken, new_marks, starts_chunk, Need, nothing, chunk_of, pages, need_of}
use Rattle.model.specs.State.{Page, idle, slab, taken, inside, edge, Run, most, Tally, State, marks_of}
use Rattle.model.specs.Runs.{fit, carve, join_runs}

pub data Call : Type 0 where
  Alloc : ℕ → Call
  Free : ℕ → Call

pub data Answer : Type 0 where
  at : ℕ → Answer  -- granted: the offset
  freed : ℕ → Answer  -- granted: the bytes released
  no : ℕ → Answer  -- refused: the number (SPEC 5)

pub record Reply : Type 0 where
  pub answer : Answer
  pub after : State

-- ---- the refusals that a call on a state can answer

unfoldable pub no_room : ℕ
no_room = number_of NoRoom

unfoldable pub outside : ℕ
outside = number_of Outside

unfoldable pub not_taken : ℕ
not_taken = number_of NotTaken

unfoldable pub not_a_start : ℕ
not_a_start = number_of NotAStart

unfoldable pub nothing_asked : ℕ
nothing_asked = number_of NothingAsked

unfoldable pub refuse : (s : State) (k : ℕ) → Reply
refuse s k = record { answer = no k; after = s }

-- ---- format

unfoldable pub fresh : ℕ → State
fresh P = record {
  size = P;
  page = λ j. cond (ltb j P) idle edge;
  runs = record { start = 0; len = P } ∷ [];
  lists = λ c. [];
  tally = λ c. record { reqs = 0; fails = 0 };
}

-- ---- tallies

-- one more, or stopped
unfoldable pub raise : ℕ → ℕ
raise n = cond (ltb n most) (suc n) n

unfoldable pub asked : Tally → Tally
asked t = record { reqs = raise t.reqs; fails = t.fails }

unfoldable pub failed : Tally → Tally
failed t = record { reqs = raise t.reqs; fails = raise t.fails }

-- ---- alloc

-- the front k pages of a run become a taken run
unfoldable pub alloc_run : State → ℕ → Option Run → Reply
alloc_run s k none = refuse s no_room
alloc_run s k (some r) = record {
  answer = at (4096 * r.start);
  after = record {
    size = s.size;
    page = upd (fill s.page r.start k inside) r.start (taken k);
    runs = carve k s.runs;
    lists = s.lists;
    tally = s.tally;
  };
}

-- the state after a chunk of class c was refused
unfoldable pub tallied : (s : State) (c : ℕ) → State
tallied s c = record {
  size = s.size;
  page = s.page;
  runs = s.runs;
  lists = s.lists;
  tally = upd s.tally c (failed (s.tally c));
}

-- the first page of a run becomes the first and only page on the list of class c
unfoldable pub cut_page : State → ℕ → Option Run → Reply
cut_page s c none = refuse (tallied s c) no_room
cut_page s c (some r) = record {
  answer = at (4096 * r.start + chunk c * own c);
  after = record {
    size = s.size;
    page = upd s.page r.start (slab c (new_marks c));
    runs = carve 1 s.runs;
    lists = upd s.lists c (r.start ∷ []);
    tally = upd s.tally c (asked (s.tally c));
  };
}

-- the lowest free chunk of page p, which has the marks m and is first on the list of class c; a page now full leaves the list
unfoldable pub mark_chunk : (s : State) (c p : ℕ) (rest : List ℕ) (m : (ℕ → Bool)) → Reply
mark_chunk s c p rest m =
    let i : ℕ = lowest c m in
    let m' : ℕ → Bool = upd m i true in
    record {
      answer = at (4096 * p + chunk c * i);
      after = record {
        size = s.size;
        page = upd s.page p (slab c m');
        runs = s.runs;
        lists = upd s.lists c (cond (has_clear c m') (p ∷ rest) rest);
        tally = upd s.tally c (asked (s.tally c));
      };
    }

-- from the class list's first page; from a new page where the list is empty
unfoldable pub alloc_chunk : State → ℕ → List ℕ → Reply
alloc_chunk s c [] = cut_page s c (fit 1 s.runs)
alloc_chunk s c (p ∷ rest) = mark_chunk s c p rest (marks_of (s.page p))

unfoldable pub alloc_for : State → Need → Reply
alloc_for s nothing = refuse s nothing_asked
alloc_for s (chunk_of c) = alloc_chunk s c (s.lists c)
alloc_for s (pages k) = alloc_run s k (fit k s.runs)

unfoldable pub alloc : (s : State) (n : ℕ) → Reply
alloc s n = alloc_for s (need_of n)

-- ---- free

-- k pages from p on become free
unfoldable pub release : (s : State) (p k : ℕ) → State
release s p k = record {
  size = s.size;
  page = fill s.page p k idle;
  runs = join_runs p k s.runs;
  lists = s.lists;
  tally = s.tally;
}

-- a class list with page p on it: a page without a clear mark was not, and returns to the head
unfoldable pub relisted : Bool → ℕ → List ℕ → List ℕ
relisted true p l = l
relisted false p l = p ∷ l

-- chunk i of page p is free again and the page stays a class page
unfoldable pub keep_page : (s : State) (p c : ℕ) (m : (ℕ → Bool)) (i : ℕ) → State
keep_page s p c m i = record {
  size = s.size;
  page = upd s.page p (slab c (upd m i false));
  runs = s.runs;
  lists = upd s.lists c (relisted (has_clear c m) p (s.lists c));
  tally = s.tally;
}

-- page p has no chunk in a caller's hands: it leaves the list and is released
unfoldable pub drop_page : (s : State) (p c : ℕ) (m : (ℕ → Bool)) → State
drop_page s p c m =
    release
    (record {
      size = s.size;
      page = s.page;
      runs = s.runs;
      lists = upd s.lists c (keep (others p) (relisted (has_clear c m) p (s.lists c)));
      tally = s.tally;
    })
    p 1

unfoldable pub free_chunk : (s : State) (p c : ℕ) (m : (ℕ → Bool)) (i : ℕ) → State
free_chunk s p c m i = cond (has_taken c (upd m i false)) (keep_page s p c m i) (drop_page s p c m)

-- the offset lies q bytes into page p
unfoldable pub free_at : State → ℕ → ℕ → Page → Reply
free_at s p q idle = refuse s not_taken
free_at s p q (slab c m) =
    cond (starts_chunk c q)
    (cond (m (q / chunk c)) (record { answer = freed (chunk c); after = free_chunk s p c m (q / chunk c) })
    (refuse s not_taken))
    (refuse s not_a_start)
free_at s p q (taken n) =
    cond (eqb q 0) (record { answer = freed (4096 * n); after = release s p n })
    (refuse s not_a_start)
free_at s p q inside = refuse s not_a_start
free_at s p q edge = refuse s outside

unfoldable pub free : (s : State) (off : ℕ) → Reply
free s off = free_at s (off / 4096) (off % 4096) (s.page (off / 4096))

-- ---- a call

unfoldable pub step : State → Call → Reply
step s (Alloc n) = alloc s n
step s (Free off) = free s off
