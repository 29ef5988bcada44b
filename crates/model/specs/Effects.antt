-- What a call does to the live blocks; f and f' are the pages before and after.
use Rattle.std.specs.Prelude.{◌≡◌, ◌⊎◌, ◌≢◌, Bool, true, ℕ, ◌+◌, ◌*◌, ◌≤◌, ◌<◌}
use Rattle.model.specs.Classes.{chunk, Need, need_of}
use Rattle.model.specs.State.{Page, idle, slab, taken, State}
use Rattle.model.specs.Calls.{Call, Alloc, Free, Answer, at, freed, no, step}
use Rattle.model.specs.Live.{Block, small, large, offset, extent, Live, block_for}

-- the block b is new
pub record Adds (f f' : ℕ → Page) (b : Block) : Type 0 where
  pub new : ¬ Live f b
  pub made : Live f' b
  pub only : (e : Block) → Live f' e → (e ≡ b) ⊎ Live f e
  pub kept : (e : Block) → Live f e → Live f' e

-- the block at the offset off, of n bytes, is struck out
pub record Strikes (f f' : ℕ → Page) (off n : ℕ) : Type 0 where
  pub was : (e : Block) × Live f e × (offset e ≡ off) × (extent e ≡ n)
  pub gone : (e : Block) → Live f' e → Live f e × (offset e ≢ off)
  pub kept : (e : Block) → Live f e → offset e ≢ off → Live f' e

unfoldable pub AllocEffect : Need → (ℕ → Page) → Answer → (ℕ → Page) → Type 0
AllocEffect need f (at off) f' = Adds f f' (block_for need off)
AllocEffect need f (freed k) f' = ⊥
AllocEffect need f (no k) f' = f' ≡ f

unfoldable pub FreeEffect : ℕ → (ℕ → Page) → Answer → (ℕ → Page) → Type 0
FreeEffect off f (at a) f' = ⊥
FreeEffect off f (freed n) f' = Strikes f f' off n
FreeEffect off f (no k) f' = f' ≡ f

unfoldable pub Effect : Call → (ℕ → Page) → Answer → (ℕ → Page) → Type 0
Effect (Alloc n) = AllocEffect (need_of n)
Effect (Free off) = FreeEffect off

-- a class page was a page of its class before, or free
abbrev pub SlabsFrom : (f f' : (ℕ → Page)) → Type 0
SlabsFrom f f' = (p c : ℕ) (m' : ℕ → Bool) → f' p ≡ slab c m' → ((m : ℕ → Bool) × (f p ≡ slab c m)) ⊎ (f p ≡ idle)

-- the block keeps its pages, or its page stays of its class with the block's mark set
unfoldable pub Stays : (ℕ → Page) → (ℕ → Page) → Block → Type 0
Stays f f' (small off c) =
    (p : ℕ) × (i : ℕ) × (m : ℕ → Bool) × (m' : ℕ → Bool) ×
    (off ≡ 4096 * p + chunk c * i) × (f p ≡ slab c m) × (m i ≡ true) × (f' p ≡ slab c m') × (m' i ≡ true)
Stays f f' (large off n) = (p : ℕ) × (off ≡ 4096 * p) × (f p ≡ taken n) × ((j : ℕ) → p ≤ j → j < p + n → f' j ≡ f j)

-- the state after the block e is freed
unfoldable pub without : (s : State) (e : Block) → State
without s e = (step s (Free (offset e))).after
