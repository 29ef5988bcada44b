pub mod Midway
pub mod Claim
