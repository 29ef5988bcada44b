use Rattle.validate_pages.proofs.Runs.{taken-stays, taken_steps}
use Rattle.validate_pages.proofs.pass_taken.Goals as goal

pub returns-then-not-taken_whole : goal.returns-then-not-taken_whole
returns-then-not-taken_whole c = taken-stays c.requires.0 (λ i. (c.shared_slice_known-1.given i).fits) _ _ _ c.requires.1 c.taken_whole.ensures c.if-not-taken_whole.true

pub returns : goal.returns
returns c = rw c.unpack_links-l.ensures (taken_steps c.requires.0 (λ i. (c.shared_slice_known-1.given i).fits) _ _ c.requires.1 c.taken_whole.ensures c.if-not-taken_whole.false)
