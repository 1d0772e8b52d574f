pub mod Settings
pub mod Nodes
