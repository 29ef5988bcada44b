-- Laws of states whose lists are made anew, for the proofs: nobody has to believe them.
use Rattle.std.specs.Prelude.{◌≡◌, ◌↔◌, ℕ, ◌≤◌}
use Rattle.model.specs.State.{Page, Tally}
use Rattle.model.specs.WellFormed.{TableOk, TallyOk, WellFormed}
use Rattle.model.specs.Live.{Block, Live}
use Rattle.mending.specs.Remade.{remade}
use Rattle.mending.specs.Claim.{Ascending, RunsAscend}

-- a table of pages and the state made of it
pub record Anew (P : ℕ) (f : ℕ → Page) (tally : ℕ → Tally) : Type 0 where
  pub well : WellFormed (remade P f tally)
  -- in rising page order
  pub runs_rise : RunsAscend 0 (remade P f tally).runs
  pub lists_rise : (c : ℕ) → Ascending 0 ((remade P f tally).lists c)

abbrev pub MadeAnew : Type 0
MadeAnew = (P : ℕ) (f : ℕ → Page) (tally : ℕ → Tally) → 1 ≤ P → TableOk P f → ((c : ℕ) → TallyOk c (tally c)) → Anew P f tally

-- the live blocks determine the pages: to compare blocks is to compare pages
abbrev pub PagesDetermined : Type 0
PagesDetermined = (P : ℕ) (f g : ℕ → Page) → 1 ≤ P → TableOk P f → TableOk P g → ((e : Block) → Live f e ↔ Live g e) → f ≡ g
