-- What rules 2 to 6 say of a plain state.
use Rattle.std.specs.Prelude.{◌≡◌, ◌↔◌, true, List, ℕ, ◌≤◌, ◌<◌, get_or}
use Rattle.base.specs.Count.{count}
use Rattle.model.specs.State.{most, is_idle}
use Rattle.model.specs.WellFormed.{WellFormed}
use Rattle.model.specs.View.{used_of, shown}
use Rattle.plain.specs.Plain.{Plain, page_count, Shaped, entry_at, page_at, no_counts, read_plain}
use Rattle.plain_rules.specs.Rules.{is_sound}

-- asks and failures have 32 bits, which their types say
pub record Tallied (s : Plain) : Type 0 where
  pub reqs : (c : ℕ) → (get_or s.counts c no_counts).reqs ≤ most
  pub fails : (c : ℕ) → (get_or s.counts c no_counts).fails ≤ most

pub record Sound (s : Plain) (b : List ℕ) : Type 0 where
  -- rule 2: there are four kinds of pages
  pub kinds : (p : ℕ) → p < page_count → (entry_at s p).kind ≤ 3
  -- rules 2 to 5, of the state that is shown
  pub well : WellFormed (read_plain s b)
  -- rule 6
  pub free : s.free ≡ count (λ p. is_idle (page_at s b p)) page_count
  pub used : (c : ℕ) → c < 9 → (get_or s.counts c no_counts).used ≡ used_of (read_plain s b) c
  pub total : (c : ℕ) → c < 9 → (get_or s.counts c no_counts).total ≡ (shown (read_plain s b)).total c

-- the tests hold exactly then
abbrev pub Judged : Type 0
Judged = (s : Plain) (b : List ℕ) → Shaped s b → Tallied s → (is_sound s b ≡ true) ↔ Sound s b
