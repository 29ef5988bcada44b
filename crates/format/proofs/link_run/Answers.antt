use Rattle.format.specs.Mirror.{run_linked}
use Rattle.format.proofs.link_run.Goals as goal

pub returns : goal.returns
unfolding run_linked
returns c = rw (c.first_free.ensures, c.put_links.ensures, c.inside_free.ensures) at c.put_links-2.ensures
