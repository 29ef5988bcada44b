pub mod Order  -- requests in order
pub mod Serving  -- one request word
pub mod Back  -- an answer reads back from its word
