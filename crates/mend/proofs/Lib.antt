pub mod Steps  -- the steps of the loops, and what the tests let pass
