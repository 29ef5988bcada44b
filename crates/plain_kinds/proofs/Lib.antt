pub mod Reaching  -- a loop that looks for a number below n that passes a test; the map's own chunks
