pub mod Convert  -- what convert answers and leaves
pub mod Claim  -- what is promised of it beyond its equations
pub mod Mirror  -- the stores, in the order of the code
