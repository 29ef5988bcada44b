use Rattle.lists.specs.Mirror.{pushed_before}
use Rattle.list_moves.proofs.push_before.Goals as goal

pub returns : goal.returns
unfolding pushed_before
returns c = rw (c.put_prev.ensures, c.put_links.ensures, c.between_pages.ensures) at c.put_first.ensures
