pub mod Written  -- the stores paint the conversion
pub mod Claims  -- the claims on convert
pub mod Steps  -- the steps of the code
