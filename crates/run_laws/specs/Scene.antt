-- What the laws ask of the pages, free runs and class lists that an image shows.
use Rattle.std.specs.Prelude.{◌≡◌, true, false, List, ℕ, ◌≤◌, ◌<◌}
use Rattle.base.specs.Lists.{Mem}
use Rattle.records.specs.Layout.{no_page}
use Rattle.model.specs.State.{Page, Run, is_idle}
use Rattle.model.specs.WellFormed.{RunsOk}

-- Less than a well-formed state, since an operation under way need not have one: a page that leaves its class has left the list
-- and is still a class page.
pub record Scene (P : ℕ) (page : ℕ → Page) (rs : List Run) (ls : ℕ → List ℕ) : Type 0 where
  pub few : P ≤ no_page
  pub runs : RunsOk (λ j. is_idle (page j)) rs
  pub idle_in : (q : ℕ) → is_idle (page q) ≡ true → q < P
  pub class_in : (c q : ℕ) → c ≤ 8 → Mem q (ls c) → (q < P) × (is_idle (page q) ≡ false)
