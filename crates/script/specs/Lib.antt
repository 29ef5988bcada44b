pub mod Script  -- what the script program prints (SPEC 8)
pub mod Mirror  -- the same on the bytes of a pool, in the order of the code
pub mod Claim  -- what the definitions of a printout promise, each citing definitions only
pub mod Example  -- the worked case (SPEC 9.3)
