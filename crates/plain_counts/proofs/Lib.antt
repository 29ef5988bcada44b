-- The steps of loops that count.
pub mod Counting
