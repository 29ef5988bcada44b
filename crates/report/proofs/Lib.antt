pub mod Room
pub mod Classes
pub mod Spans
pub mod Chunks
pub mod Whole
pub mod Claims
