mod Examples
pub mod Following
pub mod Pieces
pub mod Runs
