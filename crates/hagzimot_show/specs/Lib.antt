pub mod Shown
pub mod Sinks
pub mod Explained
