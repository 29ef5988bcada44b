use Rattle.run_extents.specs.Mirror.{rest_kept}
use Rattle.run_alloc.proofs.keep_rest.Goals as goal

pub returns : goal.returns
unfolding rest_kept
returns c = rw (c.replace.ensures, c.plain_links.ensures, c.saturating_sub-n.ensures, c.after-t.ensures) at c.put_back.ensures
