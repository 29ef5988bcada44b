pub mod First  -- the first page of a class's list
pub mod Answers  -- answers in 32 bits
pub mod Slices  -- the peak apart from the rest
pub mod Ways
