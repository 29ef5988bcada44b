pub mod Mirror
pub mod Nodes
