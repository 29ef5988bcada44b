pub mod Steps  -- the loops
pub mod Meets  -- the list tried is that of the trial, and is taken back
