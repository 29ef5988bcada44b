pub mod Calls  -- what alloc and free answer and leave (SPEC 4), for every content of the slice
pub mod Shown  -- what a pool shows in its records
pub mod Demands  -- the three demands on the bytes of a pool, each citing definitions only
pub mod Peaks  -- the peak of a class over calls
pub mod Editions  -- which edition a slice is read as, and what holds of both
pub mod Examples  -- the examples of SPEC 9.1 and the worked case on bytes
