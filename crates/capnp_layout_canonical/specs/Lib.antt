pub mod Copied
pub mod Measured
pub mod Scratch
