pub mod Meets  -- the answer is that of the trial
pub mod Steps  -- the loop over the pages below
