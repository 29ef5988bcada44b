pub mod Search  -- the steps of the two searches
pub mod Lists  -- which list a page stands on
