pub mod Built
pub mod Messages
pub mod Options
pub mod Placed
pub mod Canonical
pub mod Roots
pub mod Unbuffered
