use Rattle.format.specs.Mirror.{pages_cleared}
use Rattle.format.proofs.clear_pages.Goals as goal

pub returns : goal.returns
unfolding pages_cleared
returns c = rw (c.pack_links.ensures, c.inside_free.ensures, c.fill.ensures) at c.fill-2.ensures
