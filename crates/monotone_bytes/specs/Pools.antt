-- Returning a block never spoils a request, on bytes: the two pools may be of different editions (their class records have v and w words).
use Rattle.std.specs.Prelude.{◌≡◌, List, ℕ}
use Rattle.model.specs.Calls.{Alloc, Free}
use Rattle.model.specs.Live.{Block}
use Rattle.rules.specs.Bytes.{pages_in}
use Rattle.demands.specs.Calls.{answered, after}
use Rattle.demands.specs.Demands.{live_in}
use Rattle.sound_pools.specs.Sound.{Sound}
use Rattle.free_all_bytes.specs.FreeAll.{free_all_after}

-- every alloc that the pool t grants is granted by the pool s
abbrev pub GrantsMore : ℕ → List ℕ → ℕ → List ℕ → Type 0
GrantsMore w s v t = (n : ℕ) → (answered v t (Alloc n)).number ≡ 0 → (answered w s (Alloc n)).number ≡ 0

-- two sound pools of as many pages, each live block of s live in t with the same class or page count
abbrev pub FewerGrantMore : Type 0
FewerGrantMore = (w : ℕ) (s : List ℕ) → Sound w s → (v : ℕ) (t : List ℕ) → Sound v t → pages_in w s ≡ pages_in v t →
    ((e : Block) → live_in w s e → live_in v t e) → GrantsMore w s v t

-- after a free, granted or refused, every alloc granted before is granted
abbrev pub FreeSpoilsNone : Type 0
FreeSpoilsNone = (w : ℕ) (s : List ℕ) → Sound w s → (off : ℕ) → GrantsMore w (after w s (Free off)) w s

-- the same after a list of frees, all or none
abbrev pub FreeAllSpoilsNone : Type 0
FreeAllSpoilsNone = (w : ℕ) (s : List ℕ) → Sound w s → (offs : List ℕ) → GrantsMore w (free_all_after w s offs) w s

pub record Monotone : Type 0 where
  pub fewer_grant_more : FewerGrantMore
  pub free_spoils_none : FreeSpoilsNone
  pub free_all_spoils_none : FreeAllSpoilsNone
