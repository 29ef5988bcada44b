pub mod Mirror  -- the peak of a class, raised
