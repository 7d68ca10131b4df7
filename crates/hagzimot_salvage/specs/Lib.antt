pub mod Roots
pub mod Frames
pub mod Pieces
