pub mod Serving  -- what the lines of a script print and leave, on a plain state
