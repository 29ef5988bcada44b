use Rattle.validate_pages.proofs.Runs.{free_stays, free_steps}
use Rattle.validate_pages.proofs.pass_free.Goals as goal

pub returns-then-not-free_whole : goal.returns-then-not-free_whole
returns-then-not-free_whole c = free_stays c.requires.0 (λ i. (c.shared_slice_known-1.given i).fits) _ _ _ c.requires.1 c.free_whole.ensures c.if-not-free_whole.true

pub returns : goal.returns
returns c = rw c.unpack_links-l.ensures (free_steps c.requires.0 (λ i. (c.shared_slice_known-1.given i).fits) _ _ _ c.requires.1 c.free_whole.ensures c.if-not-free_whole.false (rw c.unpack_links-l.ensures at c.add_at.ensures))
