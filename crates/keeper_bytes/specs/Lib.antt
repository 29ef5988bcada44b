pub mod Requests  -- put, find and remove on bytes and words (SPEC 18)
pub mod Turns  -- lists of turns: requests, others' calls, others' writes
pub mod Claim  -- what is promised of the record keeper beyond its equations
