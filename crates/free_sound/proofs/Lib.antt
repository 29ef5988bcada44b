pub mod Classed  -- what is found is of one of the nine classes
pub mod Given  -- a chunk given back
