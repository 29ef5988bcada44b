use Rattle.chunks.specs.Mirror.{delisted}
use Rattle.class_lists.proofs.delist.Goals as goal

pub returns : goal.returns
unfolding delisted
returns c = rw (c.list_of.ensures, c.get_links-l.ensures) at c.unlink.ensures
