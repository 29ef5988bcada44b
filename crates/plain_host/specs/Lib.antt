pub mod Host  -- what a host has, as a plain state
