use Rattle.chunks.specs.Mirror.{page_cut}
use Rattle.chunk_alloc.proofs.cut_page.Goals as goal

pub returns : goal.returns
unfolding page_cut
returns c = rw (c.open_map.ensures, c.enlist.ensures, c.take_page.ensures) at c.count_page_used.ensures
