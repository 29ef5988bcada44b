pub mod Split
pub mod Words
