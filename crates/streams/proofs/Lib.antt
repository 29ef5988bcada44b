pub mod Whole
