use Rattle.free_all_mark.specs.Mirror.{page_put}
use Rattle.free_all_mark.proofs.put_page.Goals as goal

pub returns : goal.returns
unfolding page_put
returns c = cc
