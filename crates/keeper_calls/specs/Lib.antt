pub mod Held  -- what a find's answer says
pub mod Mirror  -- places in the directory, in the order of the code
