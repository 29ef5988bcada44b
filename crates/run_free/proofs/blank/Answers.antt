use Rattle.run_neighbours.specs.Mirror.{blanked}
use Rattle.run_free.proofs.blank.Goals as goal

pub returns : goal.returns
unfolding blanked
returns c = rw (c.plain_links.ensures, c.sum.ensures, c.one_of-3.ensures, c.one_of-2.ensures, c.before-2.ensures, c.one_of.ensures) at c.fill.ensures
