use Rattle.locate.specs.Mirror.{page_found}
use Rattle.locate.proofs.in_page.Goals as goal

pub returns : goal.returns
unfolding page_found
returns c = rw c.get_links_in-l.ensures at c.in_kind.ensures
