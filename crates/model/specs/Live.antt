-- Live blocks: those of a state, and the live set that calls and answers alone feed (SPEC 6.2).
use Rattle.std.specs.Prelude.{◌≡◌, ◌⊎◌, ◌≢◌, Bool, true, cond, ◌&&◌, not, List, [], ◌∷◌, ◌++◌, ℕ, zero, suc, ◌+◌, ◌*◌, ◌≤◌, ◌<◌, eqb, leb}
use Rattle.base.specs.Lists.{Mem, NoDup, keep}
use Rattle.model.specs.Classes.{chunk, chunks, own, Need, nothing, chunk_of, pages, need_of}
use Rattle.model.specs.State.{Page, idle, slab, taken, inside, edge, State}
use Rattle.model.specs.Calls.{Call, Alloc, Free, Answer, at, freed, no, fresh, step}

-- a block: its offset, and its class or its number of pages
pub data Block : Type 0 where
  small : ℕ → ℕ → Block
  large : ℕ → ℕ → Block

abbrev pub offset : Block → ℕ
offset (small off c) = off
offset (large off n) = off

-- its bytes
unfoldable pub extent : Block → ℕ
extent (small off c) = chunk c
extent (large off n) = 4096 * n

-- two blocks share no byte
abbrev pub Disjoint : (a b : Block) → Type 0
Disjoint a b = (offset a + extent a ≤ offset b) ⊎ (offset b + extent b ≤ offset a)

-- the block shares no byte with the n bytes from a on
abbrev pub Off : (e : Block) (a n : ℕ) → Type 0
Off e a n = (offset e + extent e ≤ a) ⊎ (a + n ≤ offset e)

-- ---- of a state

-- the block e begins on the page x, whose number is p
unfoldable pub On : Page → ℕ → Block → Type 0
On idle p e = ⊥
On (slab c m) p e =
    (i : ℕ) × (e ≡ small (4096 * p + chunk c * i) c) × (own c ≤ i) × (i < chunks c) × (m i ≡ true)
On (taken n) p e = e ≡ large (4096 * p) n
On inside p e = ⊥
On edge p e = ⊥

unfoldable pub Live : (f : (ℕ → Page)) (e : Block) → Type 0
Live f e = (p : ℕ) × On (f p) p e

-- the live blocks of a state in order of offset: the marked chunks below n of page p, ..
unfoldable pub chunks_on : ℕ → ℕ → (ℕ → Bool) → ℕ → List Block
chunks_on c p m zero = []
chunks_on c p m (suc i) = chunks_on c p m i ++ cond (leb (own c) i && m i) (small (4096 * p + chunk c * i) c ∷ []) []

-- .. the blocks that begin on the page x, whose number is p, ..
abbrev pub blocks_on : Page → ℕ → List Block
blocks_on idle p = []
blocks_on (slab c m) p = chunks_on c p m (chunks c)
blocks_on (taken n) p = large (4096 * p) n ∷ []
blocks_on inside p = []
blocks_on edge p = []

-- .. and those that begin below page n
unfoldable pub blocks_below : (ℕ → Page) → ℕ → List Block
blocks_below f zero = []
blocks_below f (suc p) = blocks_below f p ++ blocks_on (f p) p

unfoldable pub blocks : State → List Block
blocks s = blocks_below s.page s.size

-- the offsets rise, from a on
abbrev pub Rising : ℕ → List Block → Type 0
Rising a [] = Unit {0}
Rising a (e ∷ B) = (a ≤ offset e) × Rising (offset e + 1) B

-- ---- of calls and answers

-- the block that a granted alloc adds; nothing is never granted
unfoldable pub block_for : Need → ℕ → Block
block_for nothing off = large off 0
block_for (chunk_of c) off = small off c
block_for (pages k) off = large off k

unfoldable pub elsewhere : (off : ℕ) (e : Block) → Bool
elsewhere off e = not (eqb (offset e) off)

-- the live set B after a call that was answered so
unfoldable pub noted : List Block → Call → Answer → List Block
noted B (Alloc n) (at off) = block_for (need_of n) off ∷ B
noted B (Alloc n) (freed k) = B
noted B (Alloc n) (no k) = B
noted B (Free off) (at a) = B
noted B (Free off) (freed k) = keep (elsewhere off) B
noted B (Free off) (no k) = B

-- B lists the live blocks of the pages f, each once
pub record LiveSet (B : List Block) (f : ℕ → Page) : Type 0 where
  pub once : NoDup B
  pub live : (e : Block) → Mem e B → Live f e
  pub all : (e : Block) → Live f e → Mem e B

-- where the live blocks of a state lie
pub record BlocksPlaced (s : State) : Type 0 where
  -- they overlap no other block, ..
  pub apart : (d e : Block) → Live s.page d → Live s.page e → d ≢ e → Disjoint d e
  -- .. no chunk of a bitmap, ..
  pub off-maps : (e : Block) → Live s.page e → (p c : ℕ) (m : ℕ → Bool) → s.page p ≡ slab c m → Off e (4096 * p) (chunk c * own c)
  -- .. no free page, ..
  pub off-free : (e : Block) → Live s.page e → (p : ℕ) → s.page p ≡ idle → Off e (4096 * p) 4096
  -- .. and lie in the pages
  pub within-pages : (e : Block) → Live s.page e → offset e + extent e ≤ 4096 * s.size
  -- `blocks` lists them in order of offset
  pub listed : LiveSet (blocks s) s.page
  pub rising : Rising 0 (blocks s)

-- ---- after a list of calls

-- a state with its live set
pub record World : Type 0 where
  pub state : State
  pub live : List Block

unfoldable pub next : (w : World) (call : Call) → World
next w call = record {
  state = (step w.state call).after;
  live = noted w.live call (step w.state call).answer;
}

unfoldable pub run_from : World → List Call → World
run_from w [] = w
run_from w (c ∷ cs) = run_from (next w c) cs

unfoldable pub begin : ℕ → World
begin P = record { state = fresh P; live = [] }
