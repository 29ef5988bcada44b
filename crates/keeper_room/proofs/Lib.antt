pub mod Room  -- what a free would release is the room of the model
pub mod Directory  -- the ways of the test of a directory
