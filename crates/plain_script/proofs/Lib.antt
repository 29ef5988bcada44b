pub mod Serving  -- a script served line by line
