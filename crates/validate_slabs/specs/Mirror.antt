-- The map of a class page, as rule 2 wants it.
use Rattle.std.specs.Prelude.{ℕ, Bool, false, List}
use Rattle.base.specs.Tests.{pick, all_below}
use Rattle.model.specs.Classes.{own}
use Rattle.rules.specs.Fields.{map}
use Rattle.rules.specs.Rules.{map_fits}
use Rattle.rules.specs.Bytes.{mark_at, fields_of}

-- of page p, which has class c: its own chunks are marked, and the map field is as it should be
unfoldable pub map_holds : (w : ℕ) (s : List ℕ) (p c : ℕ) → Bool
map_holds w s p c = pick (all_below (mark_at w s p c) (own c)) (map_fits (map (fields_of w s) p) c) false
