pub mod Serving  -- requests on validated records
pub mod Whole  -- refused, or served
pub mod Words  -- an answer reads back from its word
pub mod Claims  -- the claims together
