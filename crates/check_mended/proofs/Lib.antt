pub mod Steps  -- what the tests let pass
