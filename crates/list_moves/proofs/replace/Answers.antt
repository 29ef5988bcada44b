use Rattle.lists.specs.Mirror.{replaced}
use Rattle.list_moves.proofs.replace.Goals as goal

pub returns : goal.returns
unfolding replaced
returns c = rw (c.put_next.ensures, c.put_links.ensures, c.between_pages.ensures) at c.put_prev.ensures
