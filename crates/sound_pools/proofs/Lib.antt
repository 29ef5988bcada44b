pub mod Calls  -- what a call on a sound pool says of the model
pub mod Validated  -- calls after one validation
