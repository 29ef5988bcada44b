-- Mended pools (SPEC 14), where class records have w words: what of a damaged pool s must be good, when a copy t of it is accepted, and the copy
-- that mend writes.
use Rattle.std.specs.Prelude.{◌≡◌, ◌↔◌, Bool, true, List, [], ◌∷◌, ℕ, ◌≤◌, length, get_or}
use Rattle.base.specs.Tests.{all_of}
use Rattle.records.specs.Layout.{pages_from}
use Rattle.model.specs.State.{Page, State}
use Rattle.model.specs.Live.{Block, Live}
use Rattle.rules.specs.Fields.{page_at}
use Rattle.rules.specs.Read.{tally_of}
use Rattle.rules.specs.Rules as rules
use Rattle.rules.specs.Bytes.{pages_in, fields_of, rule1, broken_rule}
use Rattle.demands.specs.Calls.{redrawn}
use Rattle.demands.specs.Demands.{live_in}
use Rattle.mending.specs.Remade.{remade}

-- rules 1, 2 and 5, every next, previous and zero bit set aside
unfoldable pub shaped : (w : ℕ) (s : List ℕ) → Bool
shaped w s = all_of (rule1 w s ∷ rules.shape (fields_of w s) (pages_in w s) ∷ rules.rule5 (fields_of w s) (pages_in w s) ∷ [])

-- the pages that kinds, classes, run lengths and maps show
unfoldable pub table : (w : ℕ) (s : List ℕ) (p : ℕ) → Page
table w s = page_at (fields_of w s) (pages_in w s)

-- all page bytes and the tail are the same
unfoldable pub SamePages : (w : ℕ) (s t : List ℕ) → Type 0
SamePages w s t = (i : ℕ) → pages_from w (pages_in w s) ≤ i → get_or s i 0 ≡ get_or t i 0

-- the copy t of the damaged pool s is accepted
pub record Accepted (w : ℕ) (s t : List ℕ) : Type 0 where
  pub lengths : length s ≡ length t
  pub editions : get_or s 0 0 ≡ get_or t 0 0
  pub good : shaped w s ≡ true
  pub sound : broken_rule w t ≡ 0
  pub blocks : (e : Block) → Live (table w s) e ↔ live_in w t e
  pub pages : SamePages w s t

-- the state of those pages: lists in rising page order, asks and failures as they stand
unfoldable pub repaired : (w : ℕ) (s : List ℕ) → State
repaired w s = remade (pages_in w s) (table w s) (tally_of (fields_of w s))

-- drawn over s: counts follow from the pages, and each peak is the larger of what it was and of what is in use
unfoldable pub mended_copy : (w : ℕ) (s : List ℕ) → List ℕ
mended_copy w s = redrawn w s (repaired w s)
