use Rattle.format.specs.Mirror.{classes_cleared}
use Rattle.format.proofs.clear_classes.Goals as goal

pub returns : goal.returns
unfolding classes_cleared
returns c = rw (c.pack_tally.ensures, c.empty_class-2.ensures, c.fill.ensures, c.pack_counts.ensures, c.empty_class.ensures) at c.fill-2.ensures
