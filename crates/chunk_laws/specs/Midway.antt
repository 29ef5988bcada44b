-- Between two states: lists are changed first, and counts and maps are those of the state before.
use Rattle.std.specs.Prelude.{ℕ}
use Rattle.base.specs.Functions.{upd}
use Rattle.records.specs.Mirror.{first_to}
use Rattle.model.specs.State.{Page, State}
use Rattle.image.specs.Image.{Image}
use Rattle.rules.specs.Drawn.{state_image}

-- the lists, free pages and links of n, the counts and maps of m
abbrev pub midway : (m n : State) → Image
midway m n = record {
  free_pages = (state_image n).free_pages;
  first_run = (state_image n).first_run;
  class = λ d. first_to ((state_image m).class d) ((state_image n).class d).first.0;
  map = (state_image m).map;
  links = (state_image n).links;
}

-- m with x as page p
abbrev pub with_page : (m : State) (p : ℕ) (x : Page) → State
with_page m p x = record { size = m.size; page = upd m.page p x; runs = m.runs; lists = m.lists; tally = m.tally }
