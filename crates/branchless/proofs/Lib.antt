pub mod Loops
