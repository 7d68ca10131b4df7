pub mod Writes
pub mod Widths
pub mod Reaches
pub mod Copies
pub mod Objects
pub mod Standing
pub mod Checks
