use Rattle.chunks.specs.Mirror.{enlisted}
use Rattle.class_lists.proofs.enlist.Goals as goal

pub returns : goal.returns
unfolding enlisted
returns c = rw (c.class_links.ensures, c.list_of.ensures) at c.push_front.ensures
