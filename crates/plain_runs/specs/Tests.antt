-- What the table of free runs is scanned for.
use Rattle.std.specs.Prelude.{Bool}
use Rattle.plain.specs.Table.{holds, ends_before, begins_at}
use Rattle.plain.specs.declared.Extent.{Extent}
use Rattle.plain_runs.specs.declared.Test.{Test}
use Rattle.plain_runs.specs.declared.Test.TheVariants as test

unfoldable pub passing : Test → Extent → Bool
passing (test.Holds k) e = holds k e
passing (test.EndsBefore p) e = ends_before p e
passing (test.BeginsAt q) e = begins_at q e
