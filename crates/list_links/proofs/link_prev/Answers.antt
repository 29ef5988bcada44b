use Rattle.lists.specs.Mirror.{linked_prev}
use Rattle.list_links.proofs.link_prev.Goals as goal

pub returns : goal.returns
unfolding linked_prev
returns c = rw (c.between_pages.ensures, c.get_links-l.ensures) at c.put_links.ensures
