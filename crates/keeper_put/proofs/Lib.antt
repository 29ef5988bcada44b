pub mod Stored  -- what the functions leave is what the definitions say
