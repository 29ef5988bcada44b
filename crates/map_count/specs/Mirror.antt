-- How many bits the map of a class has.
use Rattle.std.specs.Prelude.{ℕ, ltb}
use Rattle.base.specs.Tests.{pick}
use Rattle.model.specs.Classes.{chunks}

-- a map in a page has a bit for each chunk; a map field has 64
unfoldable pub map_bits : ℕ → ℕ
map_bits c = pick (ltb c 3) (chunks c) 64
