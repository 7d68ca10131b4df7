pub mod Runs
pub mod Arenas
pub mod Handles
