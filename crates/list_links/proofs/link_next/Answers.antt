use Rattle.lists.specs.Mirror.{linked_next}
use Rattle.list_links.proofs.link_next.Goals as goal

pub returns : goal.returns
unfolding linked_next
returns c = rw (c.between_pages.ensures, c.get_links-l.ensures) at c.put_links.ensures
