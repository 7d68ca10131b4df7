pub mod Tags
pub mod Parts
pub mod Runs
pub mod Steps
pub mod Written
pub mod Fronts
pub mod Streams
