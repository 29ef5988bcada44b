pub mod Top
pub mod Arms
