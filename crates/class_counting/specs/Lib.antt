pub mod Mirror  -- the tally of a class, raised
