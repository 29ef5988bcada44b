pub mod FreeAll  -- the call
pub mod Examples
pub mod Claim  -- the statements on it
pub mod Mirror  -- the trial that decides it in one pass
pub mod Trial  -- the statements on the trial
