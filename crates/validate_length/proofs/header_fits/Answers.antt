use mathlib.Core.Path.{◌≡◌, refl, ◌∙◌}
use mathlib.Core.Bool.{Bool, true, false}
use mathlib.Core.List.{List, [], ◌∷◌, ◌++◌}
use Rattle.base.specs.Tests.{pick, all_of}
use Rattle.rules.specs.Bytes.{rule1}
use Rattle.validate_length.proofs.header_fits.Goals as goal

last-first : (t : Bool) (ts : List Bool) → all_of (t ∷ ts) ≡ all_of (ts ++ (t ∷ []))
unfolding all_of pick
last-first t [] = refl
last-first t (true ∷ ts) = last-first t ts
last-first true (false ∷ ts) = refl
last-first false (false ∷ ts) = refl

pub returns : goal.returns
unfolding rule1
returns c = rw (c.saturating_sub-edition.ensures, c.get_header-h.ensures, c.requires) at (c.all.ensures ∙ last-first _ _)
