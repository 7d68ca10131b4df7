pub mod DataWords
pub mod Blobs
pub mod Splices
pub mod Cells
