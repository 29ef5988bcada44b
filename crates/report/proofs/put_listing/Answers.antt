use borrow.Author.Rules.{rules}
use native.Mathlib.Omega.{arith}
use Rattle.rules.specs.Bytes.{read}
use Rattle.report.proofs.Room.{classes-few, runs-few}
use Rattle.report.proofs.Spans.{sound-pages}
use Rattle.report.proofs.Whole.{listing_does}
use Rattle.report.proofs.put_listing.Goals as goal

pub put_classes-classes-requires : goal.put_classes-classes-requires
put_classes-classes-requires c = (sound-pages _ _ c.requires.0, search rules)

pub put_runs-runs-requires : goal.put_runs-runs-requires
put_runs-runs-requires c = (c.requires.0, omega (arith, c.put_classes-classes.ensures.0, classes-few (read 2 c.args.image.now) 9, c.requires.1))

pub put_blocks-requires : goal.put_blocks-requires
put_blocks-requires c = (c.requires.0, omega (arith, c.put_classes-classes.ensures.0, classes-few (read 2 c.args.image.now) 9, c.put_runs-runs.ensures.0, runs-few _ _ c.requires.0, c.requires.1))

pub returns : goal.returns
returns c = listing_does _ _ _ _ _ _ _ _ _ c.put_classes-classes.ensures c.put_runs-runs.ensures c.put_blocks.ensures
