pub mod Calls  -- what the public calls answer and leave
pub mod Mirror  -- the same in the order of the code
