pub mod Serving  -- a script served line by line
pub mod Room  -- how long the lines of a printout are
pub mod Alike  -- on sound bytes a script is served as on the state that they show
pub mod Claims  -- the claims of `specs/Claim.antt`
pub mod Example  -- the whole case computes
pub mod Numbers  -- a number that is printed reads back
