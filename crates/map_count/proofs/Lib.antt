pub mod Counts
pub mod Marked
