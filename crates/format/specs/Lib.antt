pub mod Format
pub mod Mirror
