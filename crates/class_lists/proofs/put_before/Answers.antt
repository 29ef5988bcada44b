use Rattle.chunks.specs.Mirror.{set_before}
use Rattle.class_lists.proofs.put_before.Goals as goal

pub returns : goal.returns
unfolding set_before
returns c = rw (c.put_links.ensures, c.between_pages-l.ensures, c.class_links.ensures) at c.put_prev.ensures
