pub mod Served  -- the ways of put, find and remove
