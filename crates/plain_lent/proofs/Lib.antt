pub mod Front  -- the first 12 entries of a slice
