pub mod Gauge  -- what the calls on a gauge answer, and the gauge afterwards (SPEC 15)
pub mod Claim  -- what is promised of the gauge beyond its equations
