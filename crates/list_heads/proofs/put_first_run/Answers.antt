use Rattle.lists.specs.Mirror.{with_first_run}
use Rattle.list_heads.proofs.put_first_run.Goals as goal

pub returns : goal.returns
unfolding with_first_run
returns c = rw (c.first_run_to.ensures, c.get_header-h.ensures) at c.put_header.ensures
