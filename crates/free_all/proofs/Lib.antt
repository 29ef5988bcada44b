pub mod Whole  -- the trial's answer and slice are the call's
pub mod Each  -- the loop of single frees
