pub mod Mirror  -- the trial on bytes
pub mod Claim  -- it decides the call
