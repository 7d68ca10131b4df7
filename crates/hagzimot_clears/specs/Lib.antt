pub mod Clears
pub mod Planned
