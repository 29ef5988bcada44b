-- The plain engine, in the order to read it.
pub mod Arrays
pub mod Table
pub mod Plain
pub mod Pages
pub mod Chunks
pub mod Engine
pub mod Fresh
pub mod Mirror  -- the same on what is kept by value, in the order of the code
