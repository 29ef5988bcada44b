use Rattle.classes.specs.Mirror.{count_page_back}
use Rattle.class_counting.proofs.count_page_back.Goals as goal

pub returns : goal.returns
unfolding count_page_back
returns c = rw (c.total_to.ensures, c.chunk_back.ensures, c.saturating_sub-total.ensures, c.total_count.ensures, c.get_class-r.ensures) at c.put_class.ensures
