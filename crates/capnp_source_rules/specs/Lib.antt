pub mod Groups
pub mod Nodes
pub mod Rules
