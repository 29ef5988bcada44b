-- Returning a block never spoils a request: a pool with fewer live blocks grants every alloc that one with more grants.
use Rattle.std.specs.Prelude.{◌≡◌, List, ℕ, ◌≤◌}
use Rattle.base.specs.Lists.{Mem}
use Rattle.model.specs.State.{State}
use Rattle.model.specs.WellFormed.{WellFormed}
use Rattle.model.specs.Calls.{Call, Alloc, Free, step}
use Rattle.model.specs.Live.{Block, Live, LiveSet, run_from, begin}
use Rattle.model.specs.Expected.{expected}
use Rattle.model.specs.Ruling.{granted, verdict, ruling}
use Rattle.free_all_model.specs.FreeAll.{free_all}

-- each live block of s is live in t, with the same class or page count
abbrev pub Fewer : State → State → Type 0
Fewer s t = (e : Block) → Live s.page e → Live t.page e

-- every alloc that t grants is granted by s
abbrev pub GrantsMore : State → State → Type 0
GrantsMore s t = (n : ℕ) → verdict (step t (Alloc n)).answer ≡ granted → verdict (step s (Alloc n)).answer ≡ granted

-- two well-formed states with equal sizes
abbrev pub FewerGrantMore : Type 0
FewerGrantMore = (s t : State) → WellFormed s → WellFormed t → s.size ≡ t.size → Fewer s t → GrantsMore s t

-- the same, read on the expected views of their live sets
abbrev pub FewerRuledMore : Type 0
FewerRuledMore = (s t : State) → WellFormed s → WellFormed t → (P : ℕ) → s.size ≡ P → t.size ≡ P →
    (B D : List Block) → LiveSet B s.page → LiveSet D t.page → ((e : Block) → Mem e B → Mem e D) →
    (n : ℕ) → ruling (expected P D) (Alloc n) ≡ granted → ruling (expected P B) (Alloc n) ≡ granted

-- the same after two lists of calls on fresh pools of P pages: live sets that calls and answers alone feed
abbrev pub FewerAfterCalls : Type 0
FewerAfterCalls = (P : ℕ) → 1 ≤ P → (cs ds : List Call) →
    ((e : Block) → Mem e (run_from (begin P) cs).live → Mem e (run_from (begin P) ds).live) →
    GrantsMore (run_from (begin P) cs).state (run_from (begin P) ds).state

-- after a free, granted or refused, every alloc granted before is granted
abbrev pub FreeSpoilsNone : Type 0
FreeSpoilsNone = (s : State) → WellFormed s → (off : ℕ) → GrantsMore (step s (Free off)).after s

-- a list of frees, all or none, spoils no alloc
abbrev pub FreeAllSpoilsNone : Type 0
FreeAllSpoilsNone = (s : State) → WellFormed s → (offs : List ℕ) → GrantsMore (free_all s offs).after s

pub record Monotone : Type 0 where
  pub fewer_grant_more : FewerGrantMore
  pub fewer_ruled_more : FewerRuledMore
  pub fewer_after_calls : FewerAfterCalls
  pub free_spoils_none : FreeSpoilsNone
  pub free_all_spoils_none : FreeAllSpoilsNone
