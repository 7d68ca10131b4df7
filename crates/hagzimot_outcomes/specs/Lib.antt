pub mod Counts
pub mod Lines
pub mod Outcomes
pub mod Watching
pub mod Skips
