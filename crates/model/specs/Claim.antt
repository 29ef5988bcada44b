-- The statements of the model, each citing definitions only.
use Rattle.std.specs.Prelude.{◌≡◌, ◌⊎◌, ◌≢◌, ◌↔◌, Bool, true, false, List, ℕ, ◌+◌, ◌*◌, ◌/◌, ◌≤◌, ◌<◌}
use Rattle.base.specs.Lists.{Mem, NoDup}
use Rattle.model.specs.Classes.{chunk, chunks, own, chunk_of, pages, need_of}
use Rattle.model.specs.State.{Page, idle, slab, State, is_open}
use Rattle.model.specs.WellFormed.{Stretch, WellFormed}
use Rattle.model.specs.Calls.{Call, Alloc, Free, Answer, at, freed, no, Reply, no_room, nothing_asked, refuse, fresh, tallied, step}
use Rattle.model.specs.Live.{Block, small, large, offset, extent, Disjoint, Off, Live, BlocksPlaced, block_for, LiveSet, World, run_from, begin}
use Rattle.model.specs.Effects.{Effect, SlabsFrom, Stays, without}
use Rattle.model.specs.View.{vacant, class, run_of, within, shown}
use Rattle.model.specs.Expected.{covers, free_page, expected}
use Rattle.model.specs.Ruling.{verdict, clear_in, page_in, run_in, ruling}
use Rattle.model.specs.Examples.{ExamplesHold}

-- ---- demand 3: a list of calls, refused ones included, from a fresh pool

-- a granted alloc overlaps no block of the live set
unfoldable pub NoOverlap : List Block → Call → Answer → Type 0
NoOverlap B (Alloc n) (at off) = (e : Block) → Mem e B → Disjoint (block_for (need_of n) off) e
NoOverlap B (Alloc n) (freed k) = Unit {0}
NoOverlap B (Alloc n) (no k) = Unit {0}
NoOverlap B (Free off) (at a) = Unit {0}
NoOverlap B (Free off) (freed k) = Unit {0}
NoOverlap B (Free off) (no k) = Unit {0}

-- the state and the live set of a pool of P pages
pub record Faithful (P : ℕ) (w : World) : Type 0 where
  pub well : WellFormed w.state
  pub size : w.state.size ≡ P
  pub live : LiveSet w.live w.state.page
  pub view : shown w.state ≡ expected P w.live
  -- the next call
  pub apart : (call : Call) → NoOverlap w.live call (step w.state call).answer
  pub ruled : (call : Call) → verdict (step w.state call).answer ≡ ruling (expected P w.live) call

abbrev pub Demand3 : Type 0
Demand3 = (P : ℕ) → 1 ≤ P → (calls : List Call) → Faithful P (run_from (begin P) calls)

-- the same from any well-formed state with its live blocks
abbrev pub Demand3From : Type 0
Demand3From = (w : World) → WellFormed w.state → LiveSet w.live w.state.page → (calls : List Call) → Faithful w.state.size (run_from w calls)

-- how the expected view reads in the words of SPEC 6.3
pub record Reads (P : ℕ) (B : List Block) : Type 0 where
  -- a page is of class c exactly when a live block of class c begins in it
  pub class_page_lem : (p c : ℕ) → ((expected P B).page p ≡ class c) ↔ ((off : ℕ) × Mem (small off c) B × (off / 4096 ≡ p))
  -- a live block of n pages makes the n pages from its offset on a taken run
  pub first-page : (p n : ℕ) → ((expected P B).page p ≡ run_of n) ↔ Mem (large (4096 * p) n) B
  pub inner-page : (p : ℕ) → ((expected P B).page p ≡ within) ↔ ((q : ℕ) × (n : ℕ) × Mem (large (4096 * q) n) B × (q < p) × (p < q + n))
  -- all other pages are free
  pub free_page_lem : (p : ℕ) → ((expected P B).page p ≡ vacant) ↔ ((e : Block) → Mem e B → covers e p ≡ false)
  -- a free run is a stretch of free pages that no free page borders
  pub free_run_lem : (p n : ℕ) → 1 ≤ n → ((expected P B).free_run p ≡ n) ↔ Stretch (free_page P B) (record { start = p; len = n })
  -- the marks of a class page are the bitmap's own and those where a live block begins
  pub marks : (p c i : ℕ) → (expected P B).page p ≡ class c → i < chunks c →
      ((expected P B).mark p i ≡ true) ↔ ((i < own c) ⊎ ((e : Block) × Mem e B × (offset e ≡ 4096 * p + chunk c * i)))

abbrev pub ViewReads : Type 0
ViewReads = (P : ℕ) → 1 ≤ P → (calls : List Call) → Reads P (run_from (begin P) calls).live

-- ---- a fresh pool

abbrev pub FreshPool : Type 0
FreshPool = (P : ℕ) → 1 ≤ P → WellFormed (fresh P) × ((e : Block) → ¬ Live (fresh P).page e)

-- ---- one call on any well-formed state

-- it keeps the state well formed, and does to the live blocks what E says
pub record Kept (s : State) (E : (ℕ → Page) → Answer → (ℕ → Page) → Type 0) (r : Reply) : Type 0 where
  pub well : WellFormed r.after
  pub size : r.after.size ≡ s.size
  pub effect : E s.page r.answer r.after.page
  pub slabs : SlabsFrom s.page r.after.page

abbrev pub CallsKeep : Type 0
CallsKeep = (s : State) → WellFormed s → (call : Call) → Kept s (Effect call) (step s call)

-- it is ruled by what the state shows
abbrev pub CallsRuled : Type 0
CallsRuled = (s : State) → WellFormed s → (call : Call) → verdict (step s call).answer ≡ ruling (shown s) call

-- a chunk is refused for room exactly when no page of its class has a clear mark and no page is free
pub record NoChunk (s : State) (c : ℕ) : Type 0 where
  pub none_clear : (p : ℕ) → is_open c (s.page p) ≡ false
  pub none_free : (p : ℕ) → s.page p ≢ idle

abbrev pub ChunkRefused : Type 0
ChunkRefused = (s : State) → WellFormed s → (n c : ℕ) → need_of n ≡ chunk_of c → ((step s (Alloc n)).answer ≡ no no_room) ↔ NoChunk s c

-- the same, read on what the state shows
abbrev pub ChunkRefusedShown : Type 0
ChunkRefusedShown = (s : State) → WellFormed s → (n c : ℕ) → need_of n ≡ chunk_of c →
    ((step s (Alloc n)).answer ≡ no no_room) ↔ ((clear_in (shown s) c ≡ false) × (page_in (shown s) ≡ false))

-- k pages are refused for room exactly when no k free pages stand in a row
abbrev pub PagesRefused : Type 0
PagesRefused = (s : State) → WellFormed s → (n k : ℕ) → need_of n ≡ pages k →
    ((step s (Alloc n)).answer ≡ no no_room) ↔ ((a : ℕ) → (j : ℕ) × (j < k) × (s.page (a + j) ≢ idle))

-- the same, read on what the state shows
abbrev pub PagesRefusedShown : Type 0
PagesRefusedShown = (s : State) → WellFormed s → (n k : ℕ) → need_of n ≡ pages k → ((step s (Alloc n)).answer ≡ no no_room) ↔ (run_in (shown s) k ≡ false)

-- a refused call leaves the state as it was, but for the tally of a refused chunk
pub record Refusals (s : State) : Type 0 where
  pub nothing : step s (Alloc 0) ≡ refuse s nothing_asked
  pub chunk : (n c k : ℕ) → need_of n ≡ chunk_of c → (step s (Alloc n)).answer ≡ no k → (step s (Alloc n)).after ≡ tallied s c
  pub run : (n j k : ℕ) → need_of n ≡ pages j → (step s (Alloc n)).answer ≡ no k → (step s (Alloc n)).after ≡ s
  pub free : (off k : ℕ) → (step s (Free off)).answer ≡ no k → (step s (Free off)).after ≡ s

-- ---- the live blocks of any well-formed state

abbrev pub Placing : Type 0
Placing = (s : State) → WellFormed s → BlocksPlaced s

-- a bitmap that a call makes lies in a page that no block touched before
abbrev pub NewBitmaps : Type 0
NewBitmaps = (s : State) → WellFormed s → (call : Call) (p c : ℕ) (m' : ℕ → Bool) → (step s call).after.page p ≡ slab c m' →
    ((m : ℕ → Bool) × (s.page p ≡ slab c m)) ⊎ ((e : Block) → Live s.page e → Off e (4096 * p) 4096)

-- A block that is live before and after a call: its pages stay or its mark stays set, and it lies off the bitmaps of both states.
pub record Untouched (s s' : State) (e : Block) : Type 0 where
  pub stays : Stays s.page s'.page e
  pub off_old : (p c : ℕ) (m : ℕ → Bool) → s.page p ≡ slab c m → Off e (4096 * p) (chunk c * own c)
  pub off-new : (p c : ℕ) (m : ℕ → Bool) → s'.page p ≡ slab c m → Off e (4096 * p) (chunk c * own c)

abbrev pub CallersBytes : Type 0
CallersBytes = (s : State) → WellFormed s → (call : Call) (e : Block) → Live s.page e → Live (step s call).after.page e → Untouched s (step s call).after e

-- ---- what a state shows depends on its live blocks only

-- and so does every ruling
pub record Alike (s t : State) : Type 0 where
  pub view : shown s ≡ shown t
  pub ruled : (call : Call) → verdict (step s call).answer ≡ verdict (step t call).answer

abbrev pub SameBlocks : Type 0
SameBlocks = (s t : State) → WellFormed s → WellFormed t → s.size ≡ t.size → ((e : Block) → Live s.page e ↔ Live t.page e) → Alike s t

abbrev pub SameLiveSets : Type 0
SameLiveSets = (P : ℕ) → 1 ≤ P → (cs ds : List Call) →
    ((e : Block) → Mem e (run_from (begin P) cs).live ↔ Mem e (run_from (begin P) ds).live) →
    Alike (run_from (begin P) cs).state (run_from (begin P) ds).state

abbrev pub SetOnly : Type 0
SetOnly = (s : State) → WellFormed s → (B D : List Block) → LiveSet B s.page → NoDup D → ((e : Block) → Mem e B ↔ Mem e D) →
    expected s.size B ≡ expected s.size D

-- with all blocks freed the pool is one free run again
abbrev pub AllFreed : Type 0
AllFreed = (s : State) → WellFormed s → ((e : Block) → ¬ Live s.page e) → shown s ≡ shown (fresh s.size)

-- a live block is freed on request, and its bytes are told
abbrev pub LiveFreed : Type 0
LiveFreed = (s : State) → WellFormed s → (e : Block) → Live s.page e → (step s (Free (offset e))).answer ≡ freed (extent e)

-- a granted alloc freed at once
pub record Undone (s : State) (n off : ℕ) : Type 0 where
  pub granted : (step (step s (Alloc n)).after (Free off)).answer ≡ freed (extent (block_for (need_of n) off))
  pub view : shown (step (step s (Alloc n)).after (Free off)).after ≡ shown s

abbrev pub AllocFreed : Type 0
AllocFreed = (s : State) → WellFormed s → (n off : ℕ) → (step s (Alloc n)).answer ≡ at off → Undone s n off

-- two live blocks freed in either order
abbrev pub FreedEitherWay : Type 0
FreedEitherWay = (s : State) → WellFormed s → (d e : Block) → Live s.page d → Live s.page e → d ≢ e →
    shown (without (without s d) e) ≡ shown (without (without s e) d)

-- ---- all of them

pub record Claims : Type 0 where
  pub demand3 : Demand3
  pub demand3-from : Demand3From
  pub view_reads : ViewReads
  pub fresh-pool : FreshPool
  pub calls_keep : CallsKeep
  pub calls_ruled : CallsRuled
  pub chunk_refused_lem : ChunkRefused
  pub chunk_refused-shown : ChunkRefusedShown
  pub pages-refused : PagesRefused
  pub pages-refused-shown : PagesRefusedShown
  pub refusals : (s : State) → Refusals s
  pub placing : Placing
  pub new_bitmaps : NewBitmaps
  pub callers_bytes : CallersBytes
  pub same_blocks : SameBlocks
  pub same_live-sets : SameLiveSets
  pub set-only : SetOnly
  pub all-freed : AllFreed
  pub live-freed : LiveFreed
  pub alloc-freed : AllocFreed
  pub freed-either_way : FreedEitherWay
  pub examples_hold : ExamplesHold
