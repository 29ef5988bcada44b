use Rattle.run_neighbours.specs.Mirror.{joined_run}
use Rattle.run_free.proofs.join.Goals as goal

pub returns : goal.returns
unfolding joined_run
returns c = rw (c.sum.ensures, c.before-3.ensures, c.blank.ensures, c.drop_run-2.ensures, c.before-2.ensures, c.drop_run.ensures, c.after.ensures) at c.push_run.ensures
