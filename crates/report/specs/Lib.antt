pub mod Report
pub mod Mirror
pub mod Claim
