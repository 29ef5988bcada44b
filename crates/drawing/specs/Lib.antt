pub mod Draw  -- the bytes of a state, drawn over other bytes
pub mod Noise  -- what of a pool is not a caller's
pub mod Claim  -- the laws between the bytes of a pool and its state, each citing definitions only
