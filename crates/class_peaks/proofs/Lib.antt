pub mod Lifted  -- the peak follows used
