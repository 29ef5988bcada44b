pub mod Counts  -- what a plain state has in use, counted from its pages and bytes
pub mod Rules  -- rules 2 to 6 on a plain state, as tests
pub mod Sound  -- what they say
pub mod Mirror  -- the same in the order of the code
