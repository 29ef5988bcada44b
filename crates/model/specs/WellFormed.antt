-- When a state is one: rules 2 to 5 (SPEC 3) without their encoding, and what drawing a state into bytes needs.
use Rattle.std.specs.Prelude.{◌≡◌, Bool, true, false, List, ℕ, suc, ◌+◌, ◌≤◌, ◌<◌}
use Rattle.base.specs.Lists.{Mem, NoDup}
use Rattle.model.specs.Classes.{chunks, own, has_taken}
use Rattle.model.specs.State.{Page, idle, slab, taken, inside, edge, Run, most, Tally, State, is_idle, is_open}

-- ---- pages (rules 2 and 5)

-- the marks of a class page: the bitmap's own are set, those past the chunks are clear, and a caller holds a chunk
pub record ClassOk (c : ℕ) (m : ℕ → Bool) : Type 0 where
  pub in_range : c ≤ 8
  pub own-set : (i : ℕ) → i < own c → m i ≡ true
  pub past_clear : (i : ℕ) → chunks c ≤ i → m i ≡ false
  pub in_use : has_taken c m ≡ true

abbrev pub PageOk : Page → Type 0
PageOk idle = Unit {0}
PageOk (slab c m) = ClassOk c m
PageOk (taken n) = 1 ≤ n
PageOk inside = Unit {0}
PageOk edge = Unit {0}

-- the pages end at `size`; the pages inside taken runs are those that the runs' first pages say
pub record TableOk (size : ℕ) (f : ℕ → Page) : Type 0 where
  pub each : (p : ℕ) → PageOk (f p)
  pub past : (p : ℕ) → size ≤ p → f p ≡ edge
  pub ends : (p : ℕ) → f p ≡ edge → size ≤ p
  pub inner : (p n j : ℕ) → f p ≡ taken n → p < j → j < p + n → f j ≡ inside
  pub owner : (j : ℕ) → f j ≡ inside → (p : ℕ) × (n : ℕ) × (f p ≡ taken n) × (p < j) × (j < p + n)

-- ---- free runs (rules 2 and 3)

-- the pages of r are free, and no free page borders them; g tells which pages are free
pub record Stretch (g : ℕ → Bool) (r : Run) : Type 0 where
  pub some-page : 1 ≤ r.len
  pub all_free : (j : ℕ) → r.start ≤ j → j < r.start + r.len → g j ≡ true
  pub low_end : (j : ℕ) → suc j ≡ r.start → g j ≡ false
  pub high_end : (j : ℕ) → j ≡ r.start + r.len → g j ≡ false

-- the list holds each maximal stretch of free pages once
pub record RunsOk (g : ℕ → Bool) (rs : List Run) : Type 0 where
  pub once : NoDup rs
  pub sound : (r : Run) → Mem r rs → Stretch g r
  pub covers : (j : ℕ) → g j ≡ true → (r : Run) × Mem r rs × (r.start ≤ j) × (j < r.start + r.len)

-- ---- class lists (rule 4)

-- the list of each class holds its pages with a clear mark, each once
pub record ListsOk (f : ℕ → Page) (lists : ℕ → List ℕ) : Type 0 where
  pub once : (c : ℕ) → NoDup (lists c)
  pub holds : (c p : ℕ) → Mem p (lists c) → is_open c (f p) ≡ true
  pub all : (c p : ℕ) → is_open c (f p) ≡ true → Mem p (lists c)

-- ---- tallies (of 32 bits; there are none past class 8)

pub record TallyOk (c : ℕ) (t : Tally) : Type 0 where
  pub reqs-fit : t.reqs ≤ most
  pub fails-fit : t.fails ≤ most
  pub none-past : 9 ≤ c → t ≡ record { reqs = 0; fails = 0 }

-- ---- the state

pub record WellFormed (s : State) : Type 0 where
  pub some-page : 1 ≤ s.size
  pub table : TableOk s.size s.page
  pub free_runs : RunsOk (λ j. is_idle (s.page j)) s.runs
  pub class-lists : ListsOk s.page s.lists
  pub tallies : (c : ℕ) → TallyOk c (s.tally c)
