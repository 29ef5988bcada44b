pub mod Fitting  -- bounds of the lowest free chunk
