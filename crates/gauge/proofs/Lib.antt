-- From floats to rounds; `Claims` has the whole.
pub mod Samples  -- samples of a round, by the tests of a gauge
pub mod Exact  -- where halving and adding lose nothing
pub mod Ranges  -- tests of floats in plain form; half and half stays in range
pub mod Plain  -- tests of a gauge in plain form
pub mod Rounds  -- counts in rounds, and the reading after any list of samples
pub mod Claims  -- the claims
