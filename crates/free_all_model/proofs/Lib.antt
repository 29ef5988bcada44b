-- `Claim` ends with all statements.
pub mod Singles  -- single frees in order
pub mod Listed  -- lists of live blocks
pub mod Order  -- reordering
pub mod Settled  -- the trial of one offset
pub mod Decided  -- the trial of a list
pub mod Examples
pub mod Claim
