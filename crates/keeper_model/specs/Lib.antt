-- The definitions of the record keeper, in the order to read them; `Claim` holds the statements.
pub mod Store  -- what the keeper works on: a pool, the bytes of its pages, and a directory
pub mod Directory  -- when a directory is sound
pub mod Requests  -- put, find and remove
pub mod Turns  -- a plain map fed by requests and results alone, and lists of turns
pub mod Ruling  -- what a request answers, read on what the map holds for its key
pub mod Examples  -- requests on small pools, to be computed
pub mod Claim  -- the statements, each citing definitions only
